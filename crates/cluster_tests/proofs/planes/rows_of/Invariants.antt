use Rattle.std.proofs.Common.{◌≡◌}
use Rattle.cluster_tests.proofs.planes.rows_of.Given as goal

abbrev pub invariant-loop-i : goal.invariant-loop-i
invariant-loop-i l = l.rows.partitions ≡ 16
