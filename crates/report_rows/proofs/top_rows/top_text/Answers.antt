use Rattle.std.proofs.Common.{[]}
use Rattle.report_rows.proofs.top_rows.top_text.Goals as goal

pub returns : goal.returns
returns g c = c.text_of.ensures _ (c.in_ok-write_total.ensures _ (c.in_ok-write_top.ensures [] c.new_writer-writer.ensures))
