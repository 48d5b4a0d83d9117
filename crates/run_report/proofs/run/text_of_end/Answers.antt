use Rattle.std.proofs.Common.{[]}
use Rattle.run_report.proofs.run.text_of_end.Goals as goal

pub returns-clause-report : goal.returns-clause-report
returns-clause-report g c = c.in_ok-closing_text.ensures _ (c.in_ok-write_moves.ensures [] c.new_writer-writer.ensures)
