use Rattle.std.proofs.Common.{rules}
use Rattle.report_cli.proofs.faults.put_location_of.Goals as goal

pub returns-in-BadLine-clause-start : goal.returns-in-BadLine-clause-start
returns-in-BadLine-clause-start c = search rules

pub returns-in-BadLine-clause-line : goal.returns-in-BadLine-clause-line
returns-in-BadLine-clause-line c = search rules
