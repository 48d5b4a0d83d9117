use Rattle.std.proofs.Common.{ℕ, ◌<◌, ◌≤◌, length}
use Rattle.partition_log.specs.Logs.{log_at}
use Rattle.consumer.specs.Consumer.{position_of}
use Rattle.keycount_c.proofs.member.pairs.is_at_work.Given as goal

abbrev pub invariant-loop-p : goal.invariant-loop-p
invariant-loop-p l = (k : ℕ) → k < l.p → position_of l.consumer k ≤ length (log_at l.cluster.logs k)
