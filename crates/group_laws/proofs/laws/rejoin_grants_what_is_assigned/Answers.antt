use Rattle.group_laws.proofs.OtherLemmas.{rejoin_leaves_rejoined}
use Rattle.group_laws.proofs.laws.rejoin_grants_what_is_assigned.Goals as goal

pub returns : goal.returns
returns c g member a = rejoin_leaves_rejoined g member a.generation a.claim a.valid a.accepted
