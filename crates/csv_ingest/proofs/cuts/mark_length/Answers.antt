use Rattle.std.proofs.Common.{◌∙◌, arith, sym, refl}
use Rattle.csv_ingest.proofs.Cutting.{bom-long, bom-short}
use Rattle.csv_ingest.proofs.cuts.mark_length.Goals as goal

pub returns-then-file-lt3-clause-value : goal.returns-then-file-lt3-clause-value
returns-then-file-lt3-clause-value c = sym (bom-short c.args.file.now (omega arith))

pub returns-then-is_mark-clause-value : goal.returns-then-is_mark-clause-value
returns-then-is_mark-clause-value c =
    let mark = sym c.is_mark.ensures ∙ c.if-is_mark.true in
    sym (bom-long c.args.file.now (omega arith) ∙ rw mark refl)

pub returns-else-is_mark-clause-value : goal.returns-else-is_mark-clause-value
returns-else-is_mark-clause-value c =
    let mark = sym c.is_mark.ensures ∙ c.if-is_mark.false in
    sym (bom-long c.args.file.now (omega arith) ∙ rw mark refl)
