use Rattle.std.proofs.Common.{rules}
use Rattle.script.proofs.plan.Roster.has_joined.Goals as goal

pub returns : goal.returns
returns c = search rules
