use Rattle.std.proofs.Common.{◌≡◌, drop}
use Rattle.bit_planes.specs.PartitionSet.{partitions_of}
use Rattle.bit_planes.specs.SetRows.{sets_of}
use Rattle.sticky_assignor.specs.Private.Filling.{retaining, free_of}
use Rattle.sticky_assignor.proofs.Steps.{left_by}
use Rattle.sticky_assignor.proofs.free_partitions.Given as goal

abbrev pub invariant-loop-i : goal.invariant-loop-i
invariant-loop-i l = record {
  below : partitions_of l.free ≡ l.owned.partitions;
  so_far : left_by l.free (retaining (drop l.i l.quotas) (sets_of l.owned (drop l.i l.members))) ≡ free_of l.owned.partitions (retaining l.quotas (sets_of l.owned l.members));
}
