use Rattle.partitioner.proofs.Hashes.{ArePlacedBelow}
use Rattle.partitioner.proofs.Partitions.place_hashes.Given as goal

abbrev pub invariant-loop-i : goal.invariant-loop-i
invariant-loop-i l = ArePlacedBelow l.self (λ i. 0) l.i l.fn.hashes l.hashes
