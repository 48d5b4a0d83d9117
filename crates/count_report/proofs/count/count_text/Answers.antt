use Rattle.std.proofs.Common.{rules}
use Rattle.count_report.proofs.count.count_text.Goals as goal

pub returns-clause-report : goal.returns-clause-report
returns-clause-report g c = search rules
