use Rattle.std.proofs.Common.{◌≡◌, Bor, List, ℕ, map, take}
use Rattle.partitioner.specs.declared.topic.Topic.{Topic}
use Rattle.ingest.proofs.reading.names_of.Given as goal

abbrev pub invariant-loop-topic : goal.invariant-loop-topic
invariant-loop-topic l = map (λ (name : Bor (List ℕ)). name.now) l.names.items ≡ map (λ (t : Topic). t.name) (take l.topic-index l.topics)
