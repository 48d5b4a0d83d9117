use Rattle.std.proofs.Common.{◌≡◌, ◌++◌, take}
use Rattle.bit_planes.specs.PartitionSet.{partitions_of}
use Rattle.bit_planes.specs.SetRows.{members as members_of}
use Rattle.sticky_assignor.proofs.Steps.{filled_from}
use Rattle.sticky_assignor.proofs.fill.Given as goal

abbrev pub invariant-loop-i : goal.invariant-loop-i
invariant-loop-i l = record {
  below : l.rows.partitions ≡ l.owned.partitions;
  free_below : partitions_of l.free ≡ l.owned.partitions;
  numbers : members_of l.rows ≡ take l.i l.members;
  so_far : l.rows.rows ++ filled_from l.owned l.free l.members l.quotas l.i ≡ filled_from l.owned l.fn.all_free l.members l.quotas 0;
}
