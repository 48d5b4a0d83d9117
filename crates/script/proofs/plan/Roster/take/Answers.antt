use Rattle.std.proofs.Common.{rules}
use Rattle.script.specs.Plan.{change_fault}
use Rattle.script.proofs.plan.Roster.take.Goals as goal

pub returns-then-not-is_allowed-clause-answer : goal.returns-then-not-is_allowed-clause-answer
unfolding change_fault
returns-then-not-is_allowed-clause-answer c = search rules
