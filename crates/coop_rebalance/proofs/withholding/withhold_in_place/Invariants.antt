use Rattle.std.proofs.Common.{◌≡◌, length, take}
use Rattle.coop_rebalance.proofs.InPlace.{withheld_of}
use Rattle.coop_rebalance.proofs.withholding.withhold_in_place.Given as goal

abbrev pub invariant-loop-member : goal.invariant-loop-member
invariant-loop-member l = record {
  next : (goal.iterator-loop-member).can_next l.member-iterator;
  ends : (goal.iterator-loop-member).is_finite l.member-iterator;
  so_far : l.rows ≡ withheld_of l.fn.rows l.granted (take (length l.yielded) l.granted.rows);
}
