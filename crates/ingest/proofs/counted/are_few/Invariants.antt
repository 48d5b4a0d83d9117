use Rattle.std.proofs.Common.{◌≤◌, ◌<◌, ◌^◌, ◌-◌, List, length, take}
use Rattle.key_counts.specs.Counts.{Entries}
use Rattle.key_counts.specs.Segments.{keys_of}
use Rattle.ingest.proofs.counted.are_few.Given as goal

abbrev pub invariant-loop-i : goal.invariant-loop-i
invariant-loop-i l = (workers : List Entries) → l.entries < 2 ^ 64 - 1 → length (keys_of workers (take l.i l.segments)) ≤ l.entries
