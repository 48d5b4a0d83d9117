use Rattle.std.proofs.Common.{◌≡◌, ◌∙◌, ◌+◌, ◌<◌, ◌≤◌, ◌++◌, ◌∷◌, [], Ok, false, ap, arith, length, length-append, sym, subst}
use Rattle.std.specs.Prelude.{nat_le}
use Rattle.lane_words.specs.Answers.{Answers}
use Rattle.partition_log.specs.Logs.{PartitionLogs, log_at}
use Rattle.consumer.specs.Consumer.{position_of, send_answer}
use Rattle.world.specs.declared.event.TheConstants.{MOST_COMMITS}
use Rattle.world.specs.Private.View.{world_view}
use Rattle.world.proofs.Outcomes.{consumer_at, no_more, send_ok}
use Rattle.world.proofs.parts.Parts.send.Goals as goal

pub send-requires-clause-partitions : goal.send-requires-clause-partitions
send-requires-clause-partitions c =
    let w = world_view c.args.self.now in
    let below : c.in-Some.index < length w.consumers = omega (arith, c.in-Some.ensures.1, c.len.ensures) in
    let is_consumer = consumer_at w c.args.member c.in-Some.index c.index-consumer.result.now c.in-Some.ensures.0 below c.index-consumer.ensures in
    let consumer = c.requires.consumers c.args.member c.index-consumer.result.now is_consumer in
    ap (λ (l : PartitionLogs). l.partitions) c.logs.ensures.logs ∙ c.requires.cluster.logs_partitions ∙ sym consumer.partitions

pub send-requires-clause-bound : goal.send-requires-clause-bound
send-requires-clause-bound c =
    let w = world_view c.args.self.now in
    let below : c.in-Some.index < length w.consumers = omega (arith, c.in-Some.ensures.1, c.len.ensures) in
    let is_consumer = consumer_at w c.args.member c.in-Some.index c.index-consumer.result.now c.in-Some.ensures.0 below c.index-consumer.ensures in
    let consumer = c.requires.consumers c.args.member c.index-consumer.result.now is_consumer in
    λ p. subst (λ (l : PartitionLogs). position_of c.index-consumer.result.now p ≤ length (log_at l p)) (sym c.logs.ensures.logs) (consumer.within p)

pub returns-in-Ok : goal.returns-in-Ok
returns-in-Ok c =
    let w = world_view c.args.self.now in
    let below : c.in-Some.index < length w.consumers = omega (arith, c.in-Some.ensures.1, c.len.ensures) in
    let is_consumer = consumer_at w c.args.member c.in-Some.index c.index-consumer.result.now c.in-Some.ensures.0 below c.index-consumer.ensures in
    let capacity : nat_le MOST_COMMITS (length w.mail) ≡ false = no_more MOST_COMMITS (length w.mail) (omega (arith, c.if-len-ge-MOST_COMMITS.false, c.len-2.ensures, c.args.self.now.mail.ok.0)) in
    let mail = c.push_reserved.ensures.items ∙ ap (λ xs. xs ++ c.in-Ok.commit ∷ []) c.reserve.ensures.items in
    let sent : c.len-in-Ok.result ≡ length w.mail + 1 = omega (arith, c.len-in-Ok.ensures, c.push_reserved.new.self.ok.0, ap length mail, length-append w.mail (c.in-Ok.commit ∷ [])) in
    send_ok w c.args.member c.args.partition c.len-in-Ok.result c.index-consumer.result.now c.in-Ok.commit c.push_reserved.new.self.items is_consumer
    (sym c.sendable.ensures ∙ c.in_default-sendable.is) capacity
    (subst (λ l. Answers (send_answer c.index-consumer.result.now l c.args.partition) (Ok c.in-Ok.commit)) c.logs.ensures.logs c.in-Ok.ensures) sent mail
