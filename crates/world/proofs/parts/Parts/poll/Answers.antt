use Rattle.std.proofs.Common.{◌∙◌, ◌<◌, ◌≤◌, ap, arith, length, sym, subst}
use Rattle.partition_log.specs.Logs.{PartitionLogs, log_at}
use Rattle.consumer.specs.Consumer.{poll_answer, polled, position_of}
use Rattle.world.specs.Private.View.{world_view}
use Rattle.world.proofs.Outcomes.{consumer_at, poll_err, poll_ok}
use Rattle.world.proofs.parts.Parts.poll.Goals as goal

pub poll-requires-clause-partitions : goal.poll-requires-clause-partitions
poll-requires-clause-partitions c =
    let w = world_view c.args.self.now in
    let below : c.in-Some.index < length w.consumers = omega (arith, c.in-Some.ensures.1, c.len.ensures) in
    let is_consumer = consumer_at w c.args.member c.in-Some.index c.index_mut.result.now c.in-Some.ensures.0 below c.index_mut.ensures.value in
    let consumer = c.requires.consumers c.args.member c.index_mut.result.now is_consumer in
    ap (λ (l : PartitionLogs). l.partitions) c.logs.ensures.logs ∙ c.requires.cluster.logs_partitions ∙ sym consumer.partitions

pub poll-requires-clause-bound : goal.poll-requires-clause-bound
poll-requires-clause-bound c =
    let w = world_view c.args.self.now in
    let below : c.in-Some.index < length w.consumers = omega (arith, c.in-Some.ensures.1, c.len.ensures) in
    let is_consumer = consumer_at w c.args.member c.in-Some.index c.index_mut.result.now c.in-Some.ensures.0 below c.index_mut.ensures.value in
    let consumer = c.requires.consumers c.args.member c.index_mut.result.now is_consumer in
    λ p. subst (λ (l : PartitionLogs). position_of c.index_mut.result.now p ≤ length (log_at l p)) (sym c.logs.ensures.logs) (consumer.within p)

pub returns-in-Ok : goal.returns-in-Ok
returns-in-Ok c =
    let w = world_view c.args.self.now in
    let below : c.in-Some.index < length w.consumers = omega (arith, c.in-Some.ensures.1, c.len.ensures) in
    let is_consumer = consumer_at w c.args.member c.in-Some.index c.index_mut.result.now c.in-Some.ensures.0 below c.index_mut.ensures.value in
    let logs = c.logs.ensures.logs in
    poll_ok w c.args.member c.in-Some.index c.args.partition c.args.records c.in-Ok.count c.index_mut.result.now c.poll.new.self c.in-Some.ensures.0 is_consumer
    (c.in-Ok.ensures.answer ∙ ap (λ l. poll_answer c.index_mut.result.now l c.args.partition c.args.records) logs)
    (c.in-Ok.ensures.ok ∙ ap (λ l. polled c.index_mut.result.now l c.args.partition c.args.records) logs)

pub returns-in-Err : goal.returns-in-Err
returns-in-Err c =
    let w = world_view c.args.self.now in
    let below : c.in-Some.index < length w.consumers = omega (arith, c.in-Some.ensures.1, c.len.ensures) in
    let is_consumer = consumer_at w c.args.member c.in-Some.index c.index_mut.result.now c.in-Some.ensures.0 below c.index_mut.ensures.value in
    let logs = c.logs.ensures.logs in
    poll_err w c.args.member c.in-Some.index c.args.partition c.args.records c.in-Err.why c.index_mut.result.now c.poll.new.self is_consumer c.index_mut.ensures.value
    (c.in-Err.ensures.answer ∙ ap (λ l. poll_answer c.index_mut.result.now l c.args.partition c.args.records) logs)
    c.in-Err.ensures.err
