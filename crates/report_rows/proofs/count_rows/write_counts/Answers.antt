use Rattle.std.proofs.Common.{◌≡◌, ◌+◌, ◌∙◌, ◌++◌, [], arith, ap, get_or, length, sym, append_assoc}
use Rattle.std.proofs.lemmas.List.{append-nil}
use Rattle.report_rows.specs.CountRows.{count_row, rows_between}
use Rattle.report_rows.proofs.Steps.{rows_all, rows_more, rows_none}
use Rattle.report_rows.proofs.count_rows.write_counts.Goals as goal

pub loop-id-init : goal.loop-id-init
loop-id-init g c = λ text begun. rw (rows_none (g.K.KeyList.keys c.args.keys.now) c.args.counts.now 0, append-nil text) begun

pub loop-id-preserved : goal.loop-id-preserved
loop-id-preserved g c = λ text begun.
    let keys = g.K.KeyList.keys c.args.keys.now in
    let counts = c.args.counts.now in
    let id = c.loop-id.id in
    let more = rows_more keys counts 0 id (omega arith) c.loop-id-test.true c.requires in
    let step = rw c.key.ensures at (c.in_ok-write_count.ensures (text ++ rows_between keys counts 0 id) (c.loop-id.invariant text begun)) in
    let grown : (text ++ rows_between keys counts 0 id) ++ count_row (get_or keys id []) (get_or counts id 0) ≡ text ++ rows_between keys counts 0 (id + 1) =
    append_assoc text (rows_between keys counts 0 id) (count_row (get_or keys id []) (get_or counts id 0)) ∙ ap (λ t. text ++ t) (sym more) in
    rw grown at step

pub returns : goal.returns
returns g c = λ text begun.
    let keys = g.K.KeyList.keys c.args.keys.now in
    let counts = c.args.counts.now in
    let last : c.loop-id.id ≡ length counts = omega arith in
    rw (last, rows_all keys counts (length counts) c.requires (omega arith)) at (c.loop-id.invariant text begun)
