use Rattle.std.proofs.Common.{arith, ap}
use Rattle.trace_report.proofs.SetTexts.{partitions_first, topics_first, topics_over, topics_step}
use Rattle.trace_report.specs.Sets.{each_after, numbers_within, texts_of_topic, texts_of_topics}
use Rattle.trace_report.specs.declared.texts.TheConstants.{SPACE}
use Rattle.std.proofs.Common.{◌+◌, ◌++◌, drop}
use Rattle.trace_report.proofs.sets.push_topics.Goals as goal

pub loop-topic-preserved : goal.loop-topic-preserved
loop-topic-preserved c =
    let topics = c.args.topics.now in
    let i = c.loop-topic.topic-index in
    let from = c.loop-topic.from in
    let topic = c.topic-item.result in
    let set = c.args.set.now in
    let first = partitions_first topics i topic (omega arith) c.topic-item.is in
    record {
      within = omega (arith, first, c.loop-topic.invariant.within);
      text = topics_step c.loop-topic.text.items c.push_topic.new.text.items (c.args.text.now.items ++ each_after SPACE (texts_of_topics topics 0 set)) (texts_of_topics (drop i topics) from set) (texts_of_topic topic.name (numbers_within set from (from + topic.partitions))) (texts_of_topics (drop (i + 1) topics) (from + topic.partitions) set)
          c.loop-topic.invariant.text (topics_first topics i from topic set (omega arith) c.topic-item.is) (rw c.text.ensures.report at c.in_ok-push_topic.ensures);
    }

pub returns : goal.returns
returns c =
    topics_over c.loop-topic.text.items c.args.text.now.items c.args.topics.now c.loop-topic.topic-index c.loop-topic.from c.args.set.now (c.args.text.now.items ++ each_after SPACE (texts_of_topics c.args.topics.now 0 c.args.set.now)) (omega arith) c.loop-topic.invariant.text
