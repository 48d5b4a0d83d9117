use Rattle.std.proofs.Common.{take, length}
use Rattle.coop_rebalance.specs.Private.Grants.{AreGrants}
use Rattle.cluster_tests.proofs.reference_grants.grants_of.Given as goal

abbrev pub invariant-loop-row : goal.invariant-loop-row
invariant-loop-row l = record {
  next : (goal.iterator-loop-row).can_next l.row-iterator;
  ends : (goal.iterator-loop-row).is_finite l.row-iterator;
  so_far : AreGrants l.some l.several (record { partitions = l.granted.partitions; rows = take (length l.yielded) l.granted.rows });
}
