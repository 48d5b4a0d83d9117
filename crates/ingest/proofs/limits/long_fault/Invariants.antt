use Rattle.std.proofs.Common.{◌≡◌, false, take}
use Rattle.std.specs.List.{list_any}
use Rattle.key_counts.specs.Counts.{Entries}
use Rattle.key_stream.specs.Rounds.{entries_in}
use Rattle.ingest.specs.Private.Limits.{have_long_keys}
use Rattle.ingest.proofs.limits.long_fault.Given as goal

abbrev pub invariant-loop-worker : goal.invariant-loop-worker
invariant-loop-worker l = list_any (λ (worker : Entries). have_long_keys l.has_topics worker.keys) (take l.worker-index (entries_in l.workers)) ≡ false
