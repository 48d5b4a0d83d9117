use Rattle.std.proofs.Common.{◌≡◌}
use Rattle.cluster_tests.proofs.planes.first_unfound.Given as goal

abbrev pub invariant-loop-member : goal.invariant-loop-member
invariant-loop-member l = l.rising.partitions ≡ 16
