use Rattle.std.proofs.Common.{ℕ, ◌≤◌, length, subst, sym}
use Rattle.partition_log.specs.Logs.{PartitionLogs, log_at}
use Rattle.consumer.specs.Consumer.{position_of}
use Rattle.keycount_c.specs.Members.{IsAtWork}
use Rattle.keycount_c.proofs.AtWork.{within_logs}
use Rattle.keycount_c.proofs.member.pairs.poll.Goals as goal

pub poll-requires-clause-bound : goal.poll-requires-clause-bound
poll-requires-clause-bound c =
    let at_work : IsAtWork c.args.consumer.now c.args.cluster.now = c.if-not-is_at_work.ensures.iff.0 (search) in
    subst (λ (l : PartitionLogs). (p : ℕ) → position_of c.args.consumer.now p ≤ length (log_at l p)) (sym c.logs.ensures.logs)
    (within_logs c.args.consumer.now c.args.cluster.now c.is_at_work.ensures.valid at_work)
