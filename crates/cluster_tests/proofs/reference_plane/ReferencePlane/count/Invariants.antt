use Rattle.std.proofs.Common.{◌≡◌}
use Rattle.bit_planes.specs.PartitionSet.{rank}
use Rattle.cluster_tests.proofs.reference_plane.ReferencePlane.count.Given as goal

abbrev pub invariant-loop-q : goal.invariant-loop-q
invariant-loop-q l = l.count ≡ rank l.self l.q
