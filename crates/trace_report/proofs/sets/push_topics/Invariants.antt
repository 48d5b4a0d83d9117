use Rattle.std.proofs.Common.{◌≡◌, ◌≤◌, ◌+◌, ◌++◌, drop}
use Rattle.lane_words.specs.declared.limits.TheConstants.{MOST_PARTITIONS}
use Rattle.partitioner.specs.Topic.{partitions_in}
use Rattle.trace_report.specs.Sets.{each_after, texts_of_topics}
use Rattle.trace_report.specs.declared.texts.TheConstants.{SPACE}
use Rattle.trace_report.proofs.sets.push_topics.Given as goal

abbrev pub invariant-loop-topic : goal.invariant-loop-topic
invariant-loop-topic l = record {
  within : l.from + partitions_in (drop l.topic-index l.topics) ≤ MOST_PARTITIONS;
  text : l.text.items ++ each_after SPACE (texts_of_topics (drop l.topic-index l.topics) l.from l.set) ≡ l.fn.text.items ++ each_after SPACE (texts_of_topics l.topics 0 l.set);
}
