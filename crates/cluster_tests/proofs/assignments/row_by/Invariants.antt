use Rattle.std.proofs.Common.{◌≡◌, length}
use Rattle.bit_planes.specs.PartitionSet.{partitions_of}
use Rattle.cluster_tests.proofs.assignments.row_by.Given as goal

abbrev pub invariant-loop-q : goal.invariant-loop-q
invariant-loop-q l = partitions_of l.row ≡ length l.owners
