use Rattle.std.proofs.Common.{◌≡◌, ◌<◌, ℕ, None, length, slice_index_or, take}
use Rattle.group_machine.specs.Moves.{taker_in}
use Rattle.group_machine.proofs.group.moves.takers_of.Given as goal

abbrev pub invariant-loop-member : goal.invariant-loop-member
invariant-loop-member l = record {
  next : (goal.iterator-loop-member).can_next l.member-iterator;
  ends : (goal.iterator-loop-member).is_finite l.member-iterator;
  long : length l.takers.items ≡ l.granted.partitions;
  so_far : (q : ℕ) → q < l.granted.partitions → slice_index_or l.takers.items q None ≡ taker_in (take (length l.yielded) l.granted.rows) l.next q;
}
