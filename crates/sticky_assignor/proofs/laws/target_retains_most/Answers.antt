use Rattle.sticky_assignor.proofs.TargetLaws.{retains_most}
use Rattle.sticky_assignor.proofs.laws.target_retains_most.Goals as goal

pub returns : goal.returns
returns c = λ partitions owned below others long over balanced. retains_most partitions owned others long below over balanced
