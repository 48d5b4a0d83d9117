use Rattle.std.proofs.Common.{◌≡◌}
use Rattle.std.specs.Prelude.{replicate}
use Rattle.key_counts.specs.Counts.{no_entries}
use Rattle.key_stream.specs.Rounds.{entries_in}
use Rattle.key_stream.proofs.counting.idle_workers.Given as goal

abbrev pub invariant-loop : goal.invariant-loop
invariant-loop l = entries_in l.workers.items ≡ replicate l.counter (no_entries l.coded)
