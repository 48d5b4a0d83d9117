use Rattle.std.proofs.Common.{◌≡◌, ℕ, List, Bor, Some, map}
use Rattle.partitioner.specs.Topic.{MayBeTopics}
use Rattle.command_line.specs.Topics.{topic_of}
use Rattle.command_line.proofs.topics.parse_topics.Given as goal

abbrev pub invariant-loop-item : goal.invariant-loop-item
invariant-loop-item l = record {
  parsed : map topic_of (map (λ (item : Bor (List ℕ)). item.now) l.yielded) ≡ map Some l.topics.items;
  valid : MayBeTopics l.topics.items;
}
