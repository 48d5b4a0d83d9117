use Rattle.std.proofs.Common.{rules}
use Rattle.script.proofs.plan.Plan.lines.Goals as goal

pub returns-clause-lines : goal.returns-clause-lines
returns-clause-lines c = search rules
