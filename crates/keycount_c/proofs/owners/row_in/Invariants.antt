use Rattle.std.proofs.Common.{◌≡◌, ℕ, ◌==◌, ◌&&◌, length}
use Rattle.std.specs.Prelude.{nat_lt, slice_index_or}
use Rattle.bit_planes.specs.PartitionSet.{is_in, partitions_of}
use Rattle.keycount_c.proofs.owners.row_in.Given as goal

abbrev pub invariant-loop-q : goal.invariant-loop-q
invariant-loop-q l = record {
  over : partitions_of l.row ≡ length l.owners;
  so_far : (q : ℕ) → is_in l.row q ≡ (nat_lt q l.q && (slice_index_or l.owners q 0 == l.member));
}
