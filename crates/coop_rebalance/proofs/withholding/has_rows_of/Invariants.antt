use Rattle.std.proofs.Common.{ℕ, ◌≡◌, ◌<◌, length, get_or, Some}
use Rattle.bit_planes.specs.PartitionSet.{PartitionSet}
use Rattle.bit_planes.specs.SetRows.{row_of}
use Rattle.coop_rebalance.proofs.withholding.has_rows_of.Given as goal

abbrev pub invariant-loop-member : goal.invariant-loop-member
invariant-loop-member l = record {
  next : (goal.iterator-loop-member).can_next l.member-iterator;
  ends : (goal.iterator-loop-member).is_finite l.member-iterator;
  so_far : (i : ℕ) (d : ℕ × PartitionSet) → i < length l.yielded → row_of l.rows (get_or l.others.rows i d).0 ≡ Some (get_or l.others.rows i d).1;
}
