use Rattle.std.proofs.Common.{◌≡◌, length}
use Rattle.bit_planes.specs.SetRows.{IsValidRows}
use Rattle.coop_rebalance.proofs.WithheldRows.{withheld_first}
use Rattle.coop_rebalance.proofs.withholding.withhold.Given as goal

abbrev pub invariant-loop-member : goal.invariant-loop-member
invariant-loop-member l = record {
  next : (goal.iterator-loop-member).can_next l.member-iterator;
  ends : (goal.iterator-loop-member).is_finite l.member-iterator;
  so_far : l.rows ≡ withheld_first l.target l.granted l.target.rows (length l.yielded);
  valid : IsValidRows l.rows;
}
