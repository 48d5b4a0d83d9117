use Rattle.std.proofs.lemmas.Result.{IfOk-weaker}
use Rattle.trace_report.proofs.RowCells.{adds_more}
use Rattle.trace_report.proofs.rows.push_partition.Goals as goal

pub returns-in_default : goal.returns-in_default
returns-in_default c =
    let cells = rw c.in_default.is at c.partition_cells-number.ensures.none in
    rw cells c.push_optional.ensures

pub returns : goal.returns
returns c =
    let cells = rw c.in-Some.is at c.partition_cells-number.ensures.found in
    rw cells (IfOk-weaker c.push_optional-2.result _ _ (λ _ last. adds_more c.args.row.now c.push_cell.new.row c.push_optional-2.new.row _ _ c.in_ok-push_cell.ensures last) c.push_optional-2.ensures)
