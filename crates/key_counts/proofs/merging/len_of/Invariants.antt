use Rattle.std.proofs.Common.{◌≡◌, ◌≤◌, length, take}
use Rattle.lane_words.specs.declared.limits.TheConstants.{MOST_RECORDS}
use Rattle.key_counts.specs.Segments.{keys_of}
use Rattle.key_counts.proofs.merging.len_of.Given as goal

abbrev pub invariant-loop-i : goal.invariant-loop-i
invariant-loop-i l = record {
  value : l.entries ≡ length (keys_of l.workers (take l.i l.segments));
  bound : l.entries ≤ MOST_RECORDS;
}
