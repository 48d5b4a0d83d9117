use Rattle.std.proofs.Common.{◌≡◌, ℕ, ◌||◌}
use Rattle.std.specs.List.{list_any}
use Rattle.bit_planes.specs.PartitionSet.{is_in, partitions_of}
use Rattle.trace_report.specs.Sets.{is_read, reads}
use Rattle.trace_report.proofs.sets.read_by_members.Given as goal

abbrev pub invariant-loop-member : goal.invariant-loop-member
invariant-loop-member l = record {
  partitions : partitions_of l.read ≡ l.world.cluster.group.partitions;
  elements : (p : ℕ) → (is_in l.read p || list_any (reads l.world p) l.member-iterator) ≡ is_read l.world p;
}
