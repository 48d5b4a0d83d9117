use Rattle.std.proofs.Common.{rules}
use Rattle.script.specs.Plan.{change_of}
use Rattle.script.proofs.plan.change_of.Goals as goal

pub returns-in-Join : goal.returns-in-Join
unfolding change_of
returns-in-Join c = search rules
