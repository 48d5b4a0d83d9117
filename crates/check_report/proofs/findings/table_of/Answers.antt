use Rattle.std.proofs.Common.{[]}
use Rattle.check_report.proofs.findings.table_of.Goals as goal

pub returns : goal.returns
returns c = c.text_of.ensures _ (c.in_ok-write_findings.ensures _ (c.in_ok-write_header.ensures [] c.new_writer-writer.ensures))
