use Rattle.std.proofs.Common.{◌≡◌}
use Rattle.bit_planes.specs.PartitionSet.{partitions_of}
use Rattle.cluster_tests.proofs.planes.in_both.Given as goal

abbrev pub invariant-loop-q : goal.invariant-loop-q
invariant-loop-q l = record { words : partitions_of l.set ≡ l.partitions; plain : partitions_of l.plain ≡ l.partitions }
