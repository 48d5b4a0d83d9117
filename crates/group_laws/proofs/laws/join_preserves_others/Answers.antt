use Rattle.group_laws.proofs.OtherLemmas.{join_leaves}
use Rattle.group_laws.proofs.laws.join_preserves_others.Goals as goal

pub returns : goal.returns
returns c g name a = join_leaves g name a.number a.valid a.accepted
