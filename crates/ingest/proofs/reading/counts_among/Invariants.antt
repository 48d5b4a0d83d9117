use Rattle.std.proofs.Common.{◌≡◌, map, take}
use Rattle.partitioner.specs.declared.topic.Topic.{Topic}
use Rattle.ingest.proofs.reading.counts_among.Given as goal

abbrev pub invariant-loop-topic : goal.invariant-loop-topic
invariant-loop-topic l = l.counts.items ≡ map (λ (t : Topic). t.partitions) (take l.topic-index l.topics)
