use Rattle.group_laws.proofs.OtherLemmas.{sync_leaves}
use Rattle.group_laws.proofs.laws.sync_preserves_others.Goals as goal

pub returns : goal.returns
returns c = sync_leaves
