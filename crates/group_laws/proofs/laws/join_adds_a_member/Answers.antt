use Rattle.group_laws.proofs.OtherLemmas.{join_brings}
use Rattle.group_laws.proofs.laws.join_adds_a_member.Goals as goal

pub returns : goal.returns
returns c g name a = join_brings g name a.number a.valid a.accepted
