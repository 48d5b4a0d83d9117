use Rattle.trace_report.proofs.rows.push_code.Goals as goal

pub returns-in-Err : goal.returns-in-Err
returns-in-Err c = rw c.in-Err.is (rw (c.from.ensures, c.code.ensures) at c.push_number.ensures)

pub returns-in-Ok : goal.returns-in-Ok
returns-in-Ok c = rw c.in-Ok.is c.push_cell.ensures
