use Rattle.std.proofs.lemmas.Result.{IfOk-weaker}
use Rattle.trace_report.proofs.RowCells.{adds_more}
use Rattle.trace_report.proofs.rows.push_before.Goals as goal

pub returns : goal.returns
returns c w =
    IfOk-weaker c.push_cell-2.result _ _ (λ _ last.
    let word = rw c.event_word.ensures at c.in_ok-push_cell.ensures in
    adds_more c.args.row.now c.push_number.new.row c.push_cell-2.new.row _ _ c.in_ok-push_number.ensures
    (adds_more c.push_number.new.row c.push_number-2.new.row c.push_cell-2.new.row _ _ c.in_ok-push_number-2.ensures
    (adds_more c.push_number-2.new.row c.push_cell.new.row c.push_cell-2.new.row _ _ word last))) c.push_cell-2.ensures
