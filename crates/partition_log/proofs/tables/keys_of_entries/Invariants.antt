use Rattle.std.proofs.Common.{◌≡◌, take}
use Rattle.key_counts.specs.Segments.{keys_of}
use Rattle.key_index.specs.Keys.{lent}
use Rattle.partition_log.proofs.tables.keys_of_entries.Given as goal

abbrev pub invariant-loop-i : goal.invariant-loop-i
invariant-loop-i l = lent l.keys.items ≡ keys_of l.taken.workers.now (take l.i l.taken.segments.now)
