use Rattle.std.proofs.Common.{◌∙◌, [], ◌∷◌, sym, ap, arith}
use Rattle.std.specs.Prelude.{decimal}
use Rattle.report_rows.proofs.Replayed.{fields_end, fields_here, fields_later}
use Rattle.report_rows.proofs.replay_rows.partition_among.Goals as goal

pub returns-then-number-topic-clause-found : goal.returns-then-number-topic-clause-found
returns-then-number-topic-clause-found c =
    c.loop-topic.invariant ∙ fields_here c.args.topics.now c.loop-topic.topic-index c.loop-topic.number c.topic-item.result (omega arith) c.topic-item.is c.if-number-topic.true
    ∙ ap (λ name. name ∷ decimal c.loop-topic.number ∷ []) (sym c.text.ensures.report)

pub loop-topic-preserved : goal.loop-topic-preserved
loop-topic-preserved c =
    c.loop-topic.invariant ∙ fields_later c.args.topics.now c.loop-topic.topic-index c.loop-topic.number c.topic-item.result (omega arith) c.topic-item.is (omega arith)

pub returns-clause-none : goal.returns-clause-none
returns-clause-none c = c.loop-topic.invariant ∙ fields_end c.args.topics.now c.loop-topic.topic-index c.loop-topic.number (omega arith)
