use Rattle.std.proofs.Common.{rules}
use Rattle.script.proofs.plan.Roster.is_anybody_left.Goals as goal

pub returns : goal.returns
returns c = search rules
