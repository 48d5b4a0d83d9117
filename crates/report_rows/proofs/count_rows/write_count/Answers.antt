use Rattle.report_rows.specs.CountRows.{count_row}
use Rattle.report_rows.proofs.count_rows.write_count.Goals as goal

pub returns : goal.returns
unfolding count_row
returns c = rw (c.as_bytes.ensures.value, c.format.ensures.text) at c.write_row.ensures
