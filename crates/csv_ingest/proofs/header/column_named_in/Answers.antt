use Rattle.std.proofs.Common.{◌≡◌, ◌∙◌, false, true, inl, refl, rules}
use Rattle.csv_ingest.specs.Pieces.{file_records}
use Rattle.csv_ingest.proofs.Headers.{column-found, column-none}
use Rattle.csv_ingest.proofs.header.column_named_in.Goals as goal

pub returns-then-not-branch-clause-answer : goal.returns-then-not-branch-clause-answer
returns-then-not-branch-clause-answer c =
    let none : c.in_ok-read_first.field-0 ≡ false = search rules in
    let empty = rw none at c.in_ok-read_first.ensures in
    inl (column-none c.args.most c.args.name.now (file_records c.args.delimiter c.args.text.now) empty)

pub returns-clause-answer : goal.returns-clause-answer
returns-clause-answer c =
    let some : c.in_ok-read_first.field-0 ≡ true = search rules in
    let first = rw some at c.in_ok-read_first.ensures in
    inl (c.column_among.ensures.value ∙ column-found c.args.most c.args.name.now (file_records c.args.delimiter c.args.text.now) _ first.0 _ first.1 refl)
