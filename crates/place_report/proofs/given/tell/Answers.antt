use Rattle.std.proofs.Common.{◌∙◌, ◌++◌, List, ℕ, ap, subst, sym}
use Rattle.report_rows.specs.Rows.{HasText}
use Rattle.place_report.proofs.Told.{told_row}
use Rattle.place_report.proofs.given.tell.Goals as goal

pub returns-clause-ok : goal.returns-clause-ok
returns-clause-ok c text begun =
    let row = told_row c.args.topics.now c.args.given.now c.args.i _ _ c.requires.len c.requires.among (sym c.is_number_of.ensures ∙ c.if-is_number_of.false) in
    subst (λ (all : List ℕ). HasText c.write_misplaced.new.writer all) (ap (λ rows. text ++ rows) (sym row)) (c.in_ok-write_misplaced.ensures text begun)
