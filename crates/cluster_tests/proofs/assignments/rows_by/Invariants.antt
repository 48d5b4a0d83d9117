use Rattle.std.proofs.Common.{◌≡◌, length}
use Rattle.cluster_tests.proofs.assignments.rows_by.Given as goal

abbrev pub invariant-loop-member : goal.invariant-loop-member
invariant-loop-member l = l.rows.partitions ≡ length l.owners
