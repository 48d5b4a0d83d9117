use Rattle.sticky_assignor.proofs.TargetLaws.{is_balanced}
use Rattle.sticky_assignor.proofs.laws.target_is_balanced.Goals as goal

pub returns : goal.returns
returns c partitions owned o = is_balanced partitions owned o.some o.below o.disjoint
