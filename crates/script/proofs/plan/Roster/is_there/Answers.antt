use Rattle.std.proofs.Common.{rules}
use Rattle.script.proofs.plan.Roster.is_there.Goals as goal

pub returns-then-has_joined : goal.returns-then-has_joined
returns-then-has_joined c = search rules

pub returns-else-has_joined : goal.returns-else-has_joined
returns-else-has_joined c = search rules
