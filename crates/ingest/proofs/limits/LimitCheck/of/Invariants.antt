use Rattle.std.proofs.Common.{take}
use Rattle.std.specs.List.{list_any, sum_by}
use Rattle.key_counts.specs.Counts.{Entries, total_of}
use Rattle.key_stream.specs.Rounds.{entries_in}
use Rattle.ingest.specs.Private.Limits.{Adds, have_long_keys, no_records}
use Rattle.ingest.proofs.limits.LimitCheck.of.Given as goal

abbrev pub invariant-loop-worker : goal.invariant-loop-worker
invariant-loop-worker l =
    let counted = take l.worker-index (entries_in l.workers) in
    Adds (no_records l.counts l.has_topics) (λ f. sum_by (total_of f) counted) (list_any (λ (worker : Entries). have_long_keys l.has_topics worker.keys) counted) l.check
