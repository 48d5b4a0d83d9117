use Rattle.group_laws.proofs.AssignedLemmas.{has_partitions}
use Rattle.group_laws.proofs.ResultLemmas.{two_rounds}
use Rattle.group_laws.proofs.laws.two_rounds_settle.Goals as goal

pub returns : goal.returns
returns c g sound = two_rounds g (has_partitions g sound.sized) sound.anybody sound.consistent sound.disjoint
