use Rattle.std.proofs.Common.{◌≡◌, ◌<◌, ◌++◌, append-nil, ap, arith, get_or, length, min, rules, subst}
use Rattle.report_rows.specs.Private.Ranked.{Numbered}
use Rattle.report_rows.specs.Rows.{HasText}
use Rattle.report_rows.proofs.Ranking.{rows_to, rows_to_more, rows_to_top}
use Rattle.report_rows.proofs.top_rows.write_top.Goals as goal

pub key-requires : goal.key-requires
key-requires g c =
    let is : c.index.result.now ≡ get_or c.in_ok-ranked.ranked.items c.loop-i.i c.index.result.now = search rules in
    let below : (get_or c.in_ok-ranked.ranked.items c.loop-i.i c.index.result.now).1 < length c.args.counts.now = c.in_ok-ranked.ensures.bound c.loop-i.i c.index.result.now (omega (arith, c.len.ensures, c.min-shown.ensures)) in
    omega (arith, below, ap (λ (x : Numbered). x.1) is, c.requires)

pub loop-i-init : goal.loop-i-init
loop-i-init g c text begun = rw (append-nil text) begun

pub loop-i-preserved : goal.loop-i-preserved
loop-i-preserved g c text begun =
    let keys = g.K.KeyList.keys c.args.keys.now in
    let ranked = c.in_ok-ranked.ranked.items in
    let is : c.index.result.now ≡ get_or ranked c.loop-i.i c.index.result.now = search rules in
    let step = rw c.key.ensures at (c.in_ok-write_counted.ensures (text ++ rows_to keys ranked c.loop-i.i) (c.loop-i.invariant text begun)) in
    let here = rw is at step in
    subst (HasText c.write_counted.new.writer) (rows_to_more text keys ranked c.loop-i.i c.index.result.now (omega (arith, c.len.ensures, c.min-shown.ensures))) here

pub returns : goal.returns
returns g c text begun =
    let keys = g.K.KeyList.keys c.args.keys.now in
    let ranked = c.in_ok-ranked.ranked.items in
    let last : c.loop-i.i ≡ min c.args.most (length ranked) = omega (arith, c.len.ensures, c.min-shown.ensures) in
    subst (λ rows. HasText c.loop-i.writer (text ++ rows)) (rows_to_top c.args.most keys c.args.counts.now ranked c.loop-i.i c.in_ok-ranked.ensures.value c.requires last) (c.loop-i.invariant text begun)
