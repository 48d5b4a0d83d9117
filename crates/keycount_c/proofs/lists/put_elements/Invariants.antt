use Rattle.bit_planes.specs.PartitionSet.{elements}
use Rattle.keycount_c.proofs.Filling.{IsFilling}
use Rattle.keycount_c.proofs.lists.put_elements.Given as goal

abbrev pub invariant-loop-q : goal.invariant-loop-q
invariant-loop-q l = IsFilling (elements l.set) l.q-iterator l.count l.out l.fn.out
