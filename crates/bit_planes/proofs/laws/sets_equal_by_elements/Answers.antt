use Rattle.bit_planes.proofs.Sets.{same_set}
use Rattle.bit_planes.proofs.laws.sets_equal_by_elements.Goals as goal

pub returns : goal.returns
returns c = λ s t len same. same_set s t len (λ q lt. same q)
