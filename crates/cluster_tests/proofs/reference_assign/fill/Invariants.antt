use Rattle.std.proofs.Common.{◌≡◌, ◌++◌, length, take}
use Rattle.bit_planes.specs.PartitionSet.{partitions_of}
use Rattle.bit_planes.specs.SetRows.{members as members_of}
use Rattle.sticky_assignor.proofs.Steps.{filled_from}
use Rattle.cluster_tests.proofs.reference_assign.fill.Given as goal

abbrev pub invariant-loop-member : goal.invariant-loop-member
invariant-loop-member l = record {
  next : (goal.iterator-loop-member).can_next l.member-iterator;
  ends : (goal.iterator-loop-member).is_finite l.member-iterator;
  below : l.rows.partitions ≡ l.owned.partitions;
  free_below : partitions_of l.free ≡ l.owned.partitions;
  numbers : members_of l.rows ≡ take (length l.yielded) l.members;
  so_far : l.rows.rows ++ filled_from l.owned l.free l.members l.quotas (length l.yielded) ≡ filled_from l.owned l.fn.all_free l.members l.quotas 0;
}
