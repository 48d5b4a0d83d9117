use Rattle.std.proofs.Common.{◌≡◌}
use Rattle.cluster_tests.proofs.rebalances.full_rows.Given as goal

abbrev pub invariant-loop-member : goal.invariant-loop-member
invariant-loop-member l = l.rows.partitions ≡ l.partitions
