use Rattle.std.proofs.Common.{◌∙◌, subst}
use Rattle.std.proofs.lemmas.Result.{IfOk-weaker}
use Rattle.world.specs.Runs.{IsOpening}
use Rattle.world.proofs.Over.{over_empty}
use Rattle.world.proofs.world.World.new.Goals as goal

pub returns-clause-state : goal.returns-clause-state
returns-clause-state g c = IfOk-weaker c.over.result _ _ (λ w is. subst (λ n. IsOpening n w) c.in_ok-logs.ensures.partitions (over_empty c.in_ok-logs.logs w is c.in_ok-logs.ensures.empty).opening) c.over.ensures.state

pub returns-clause-counts : goal.returns-clause-counts
returns-clause-counts g c = IfOk-weaker c.over.result _ _ (λ w is. (over_empty c.in_ok-logs.logs w is c.in_ok-logs.ensures.empty).counts ∙ c.in_ok-logs.ensures.counts) c.over.ensures.state

pub returns-clause-offsets : goal.returns-clause-offsets
returns-clause-offsets g c = IfOk-weaker c.over.result _ _ (λ w is. (over_empty c.in_ok-logs.logs w is c.in_ok-logs.ensures.empty).offsets) c.over.ensures.state
