use Rattle.std.proofs.Common.{◌≡◌, ◌∙◌, ◌++◌, ℕ, List, sym, ap, subst, arith}
use Rattle.std.proofs.lemmas.List.{append-nil}
use Rattle.report_rows.specs.Rows.{HasText}
use Rattle.place_report.proofs.Headers.{key_row-is, no_key_row}
use Rattle.place_report.proofs.key_rows.write_key.Goals as goal

pub returns-then-records-eq0 : goal.returns-then-records-eq0
returns-then-records-eq0 c text begun =
    let none = ap (λ row. text ++ row) (no_key_row c.args.topics.now c.args.key.now c.args.p c.args.records c.if-records-eq0.true) ∙ append-nil text in
    subst (λ (all : List ℕ). HasText c.args.writer.now all) (sym none) begun

pub returns-in-Some : goal.returns-in-Some
returns-in-Some c =
    let fields = rw c.in-Some.is at c.partition_among-number.ensures.found in
    rw (key_row-is c.args.topics.now c.args.key.now c.args.p c.args.records _ (λ none. absurd (omega arith)) fields)
    (rw (c.as_bytes-partition.ensures.value, c.format.ensures.text, c.as_bytes-records.ensures.value, c.format-2.ensures.text) at c.write_row.ensures)

pub returns-in-None : goal.returns-in-None
returns-in-None c =
    let fields = rw c.in-None.is at c.partition_among-number.ensures.none in
    rw (key_row-is c.args.topics.now c.args.key.now c.args.p c.args.records _ (λ none. absurd (omega arith)) fields)
    (rw (c.as_bytes-partition.ensures.value, c.format.ensures.text, c.as_bytes-records.ensures.value, c.format-2.ensures.text) at c.write_row-in-None.ensures)
