use Rattle.report_rows.specs.Rows.{total_row}
use Rattle.report_rows.proofs.rows.write_total.Goals as goal

pub returns : goal.returns
unfolding total_row
returns c = rw (c.as_bytes.ensures.value, c.format.ensures.text, c.as_bytes-2.ensures.value, c.format-2.ensures.text) at c.write_row.ensures
