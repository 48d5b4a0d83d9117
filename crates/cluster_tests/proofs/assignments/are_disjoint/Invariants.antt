use Rattle.std.proofs.Common.{ℕ, ◌≡◌, ◌+◌, drop}
use Rattle.bit_planes.specs.PartitionSet.{partitions_of, is_in, one}
use Rattle.bit_planes.specs.SetRows.{sets_of}
use Rattle.sticky_assignor.specs.Balanced.{holders}
use Rattle.cluster_tests.proofs.assignments.are_disjoint.Given as goal

abbrev pub invariant-loop-member : goal.invariant-loop-member
invariant-loop-member l = record {
  below : partitions_of l.seen ≡ l.owned.partitions;
  so_far : (q : ℕ) → one (is_in l.seen q) + holders (sets_of l.owned (drop l.member-index l.members)) q ≡ holders (sets_of l.owned l.members) q;
}
