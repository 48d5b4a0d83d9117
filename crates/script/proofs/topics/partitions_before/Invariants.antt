use Rattle.std.proofs.Common.{◌≡◌, take}
use Rattle.partitioner.specs.Topic.{partitions_in}
use Rattle.script.proofs.topics.partitions_before.Given as goal

abbrev pub invariant-loop-topic : goal.invariant-loop-topic
invariant-loop-topic l = l.partitions ≡ partitions_in (take l.topic-index l.topic-items)
