use Rattle.std.proofs.lemmas.Result.{IfOk-weaker}
use Rattle.trace_report.proofs.RowCells.{adds_more}
use Rattle.trace_report.proofs.rows.push_between.Goals as goal

pub returns : goal.returns
returns c w =
    IfOk-weaker c.push_cell.result _ _ (λ _ last.
    let reason = rw c.reason_cell.ensures at last in
    adds_more c.args.row.now c.push_optional.new.row c.push_cell.new.row _ _ c.in_ok-push_optional.ensures
    (adds_more c.push_optional.new.row c.push_optional-2.new.row c.push_cell.new.row _ _ c.in_ok-push_optional-2.ensures
    (adds_more c.push_optional-2.new.row c.push_optional-3.new.row c.push_cell.new.row _ _ c.in_ok-push_optional-3.ensures
    (adds_more c.push_optional-3.new.row c.push_code.new.row c.push_cell.new.row _ _ c.in_ok-push_code.ensures reason)))) c.push_cell.ensures
