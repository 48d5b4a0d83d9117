use Rattle.std.proofs.Common.{take}
use Rattle.key_counts.specs.Counts.{total}
use Rattle.ingest.specs.Private.Limits.{Adds, have_long_keys}
use Rattle.ingest.proofs.limits.LimitCheck.add_entries.Given as goal

abbrev pub invariant-loop-code : goal.invariant-loop-code
invariant-loop-code l =
    Adds l.fn.self (λ f. total f (take l.code l.worker.keys) (take l.code l.worker.counts)) (have_long_keys l.fn.self.has_topics (take l.code l.worker.keys)) l.self
