use Rattle.std.proofs.Common.{◌≡◌, ◌+◌, ◌∙◌, ◌++◌, [], arith, ap, get_or, sym, append_assoc}
use Rattle.std.proofs.lemmas.List.{append-nil}
use Rattle.report_rows.specs.CountRows.{counted_row}
use Rattle.report_rows.specs.Private.Slices.{committed_between}
use Rattle.report_rows.proofs.Slices.{between-more, between-none}
use Rattle.report_rows.proofs.committed_rows.write_between.Goals as goal

pub loop-id-init : goal.loop-id-init
loop-id-init c = λ text begun. rw (between-none c.args.keys.now c.args.counts.now c.args.from, append-nil text) begun

pub loop-id-preserved : goal.loop-id-preserved
loop-id-preserved c = λ text begun.
    let keys = c.args.keys.now in
    let counts = c.args.counts.now in
    let from = c.args.from in
    let id = c.loop-id.id in
    let more = between-more keys counts from id (omega arith) (omega arith) c.requires.len in
    let step = rw c.key.ensures at (c.in_ok-write_counted.ensures (text ++ committed_between keys counts from id) (c.loop-id.invariant text begun)) in
    let grown : (text ++ committed_between keys counts from id) ++ counted_row (get_or keys id []) (get_or counts id 0) ≡ text ++ committed_between keys counts from (id + 1) =
    append_assoc text (committed_between keys counts from id) (counted_row (get_or keys id []) (get_or counts id 0)) ∙ ap (λ t. text ++ t) (sym more) in
    rw grown at step

pub returns : goal.returns
returns c = λ text begun.
    let last : c.loop-id.id ≡ c.args.to = omega arith in
    rw last at (c.loop-id.invariant text begun)
