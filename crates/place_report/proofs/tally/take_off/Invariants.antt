use Rattle.std.proofs.Common.{◌≡◌, drop, length}
use Rattle.place_report.specs.Private.Tallies.{AreCountsOf}
use Rattle.place_report.proofs.tally.take_off.Given as goal

abbrev pub invariant-loop-i : goal.invariant-loop-i
invariant-loop-i l = record {
  counters : AreCountsOf (drop l.i l.ids) l.counters;
  len : length l.counters ≡ length l.fn.counters;
}
