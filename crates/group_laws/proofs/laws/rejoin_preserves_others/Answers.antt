use Rattle.group_laws.proofs.OtherLemmas.{rejoin_leaves}
use Rattle.group_laws.proofs.laws.rejoin_preserves_others.Goals as goal

pub returns : goal.returns
returns c g member a = rejoin_leaves g member a.generation a.claim a.valid a.accepted
