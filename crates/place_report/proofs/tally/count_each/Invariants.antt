use Rattle.std.proofs.Common.{◌≡◌, ◌≤◌, List, length, map, take}
use Rattle.key_index.specs.Keys.{IsWithoutRepeats, Key, distinct, key_at}
use Rattle.place_report.specs.Private.Tallies.{AreCountsOf}
use Rattle.place_report.proofs.tally.count_each.Given as goal

abbrev pub invariant-loop-i : goal.invariant-loop-i
invariant-loop-i l = record {
  counters : AreCountsOf (take l.i l.ids) l.counters;
  len : length l.counters ≡ length l.fn.counters;
  bound : l.different ≤ l.i;
  value : (keys : List Key) → IsWithoutRepeats keys → length keys ≡ length l.counters
      → l.different ≡ length (distinct (map (key_at keys) (take l.i l.ids)));
}
