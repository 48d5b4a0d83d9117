use Rattle.std.proofs.Common.{[]}
use Rattle.place_report.proofs.given.table_of_given.Goals as goal

pub returns-clause-text : goal.returns-clause-text
returns-clause-text c = c.in_ok-text.ensures _ (c.in_ok-misplaced.ensures.ok _ (c.in_ok-write_header.ensures [] c.new_writer-writer.ensures))
