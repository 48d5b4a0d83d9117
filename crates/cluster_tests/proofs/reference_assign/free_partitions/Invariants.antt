use Rattle.std.proofs.Common.{◌≡◌, length, drop}
use Rattle.bit_planes.specs.PartitionSet.{partitions_of}
use Rattle.bit_planes.specs.SetRows.{sets_of}
use Rattle.sticky_assignor.specs.Private.Filling.{retaining, free_of}
use Rattle.sticky_assignor.proofs.Steps.{left_by}
use Rattle.cluster_tests.proofs.reference_assign.free_partitions.Given as goal

abbrev pub invariant-loop-member : goal.invariant-loop-member
invariant-loop-member l = record {
  next : (goal.iterator-loop-member).can_next l.member-iterator;
  ends : (goal.iterator-loop-member).is_finite l.member-iterator;
  below : partitions_of l.free ≡ l.owned.partitions;
  so_far : left_by l.free (retaining (drop (length l.yielded) l.quotas) (sets_of l.owned (drop (length l.yielded) l.members))) ≡ free_of l.owned.partitions (retaining l.quotas (sets_of l.owned l.members));
}
