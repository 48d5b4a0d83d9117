use Rattle.std.proofs.Common.{◌≡◌, ◌<◌, ℕ, length}
use Rattle.partition_log.specs.Logs.{log_at}
use Rattle.commit_store.specs.Commits.{committed_at}
use Rattle.workers.proofs.planned.are_ends_committed.Given as goal

abbrev pub invariant-loop-p : goal.invariant-loop-p
invariant-loop-p l = (q : ℕ) → q < l.p → committed_at l.cluster.store q ≡ length (log_at l.cluster.logs q)
