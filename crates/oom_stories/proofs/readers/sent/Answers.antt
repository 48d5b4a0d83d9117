use Rattle.std.proofs.Common.{◌≡◌, ◌∙◌, ◌≤◌, ap, length, subst, sym}
use Rattle.partition_log.specs.Logs.{PartitionLogs, log_at}
use Rattle.group_machine.specs.Cluster.{ClusterState}
use Rattle.consumer.specs.Consumer.{position_of}
use Rattle.oom_stories.proofs.readers.sent.Goals as goal

same_logs : (c : goal.After-logs) → c.logs.result.now ≡ c.args.world.now.cluster.logs
same_logs c = c.logs.ensures.logs ∙ ap (λ (s : ClusterState). s.logs) c.cluster.ensures.cluster

pub send-requires-clause-partitions : goal.send-requires-clause-partitions
send-requires-clause-partitions c =
    let valid = c.cluster.ensures.valid in
    let consumer = valid.consumers 1 c.in-Some.consumer.now c.in-Some.ensures.value in
    ap (λ (l : PartitionLogs). l.partitions) (same_logs c) ∙ valid.cluster.logs_partitions ∙ sym consumer.partitions

pub send-requires-clause-bound : goal.send-requires-clause-bound
send-requires-clause-bound c =
    let consumer = c.cluster.ensures.valid.consumers 1 c.in-Some.consumer.now c.in-Some.ensures.value in
    λ p. subst (λ (l : PartitionLogs). position_of c.in-Some.consumer.now p ≤ length (log_at l p)) (sym (same_logs c)) (consumer.within p)
