use Rattle.trace_report.proofs.rows.push_number.Goals as goal

pub returns : goal.returns
returns c = rw (c.as_bytes.ensures.value, c.format.ensures.text) at c.push_cell.ensures
