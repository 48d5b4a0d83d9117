use Rattle.std.proofs.Common.{rules}
use Rattle.script.specs.Plan.{is_allowed}
use Rattle.script.proofs.plan.Roster.is_allowed.Goals as goal

pub returns-then-not-has_joined : goal.returns-then-not-has_joined
unfolding is_allowed
returns-then-not-has_joined c = search rules

pub returns-else-not-has_joined : goal.returns-else-not-has_joined
unfolding is_allowed
returns-else-not-has_joined c = search rules
