use Rattle.sticky_assignor.proofs.TargetLaws.{stays}
use Rattle.sticky_assignor.proofs.laws.balanced_target_is_unchanged.Goals as goal

pub returns : goal.returns
returns c = stays
