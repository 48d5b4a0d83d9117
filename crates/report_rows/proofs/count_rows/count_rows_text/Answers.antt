use Rattle.std.proofs.Common.{[]}
use Rattle.report_rows.proofs.count_rows.count_rows_text.Goals as goal

pub returns : goal.returns
returns g c = c.text_of.ensures _ (c.in_ok-write_counts.ensures [] c.in_ok-writer.ensures)
