use Rattle.group_laws.proofs.OtherLemmas.{leave_leaves}
use Rattle.group_laws.proofs.laws.leave_preserves_others.Goals as goal

pub returns : goal.returns
returns c = leave_leaves
