use Rattle.std.proofs.Common.{get_or}
use Rattle.partitioner.proofs.Hashes.{ArePlacedBelow}
use Rattle.partitioner.proofs.Partitions.place_hashes_in.Given as goal

abbrev pub invariant-loop-i : goal.invariant-loop-i
invariant-loop-i l = ArePlacedBelow l.self (λ i. get_or l.topics i 0) l.i l.fn.hashes l.hashes
