use Rattle.script.proofs.PlanRules.{plan_is_short}
use Rattle.script.proofs.laws.a_plan_is_short.Goals as goal

pub returns : goal.returns
returns c = plan_is_short
