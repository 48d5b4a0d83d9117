-- The partitions of the topics that lines name.
use Rattle.std.specs.Prelude.{ℕ, ◌+◌, nat_lt, if◌then◌else◌, List, take, Option, Some, None}
use Rattle.std.specs.List.{position}
use Rattle.std.specs.Str.{bytes_eq}
use Rattle.partitioner.specs.Topic.{partitions_at, partitions_in}
use Rattle.partitioner.specs.declared.topic.Topic.{Topic}
use Rattle.script.specs.declared.limits.TheConstants.{NO_PARTITION}

-- the index of the topic of this name
unfoldable pub topic_named : List Topic → List ℕ → Option ℕ
topic_named topics name = position (λ topic. bytes_eq topic.name name) topics

-- A partition of the topic of this index, counted over all topics: the partitions of the topics
-- before it come first. A partition that the topic does not have becomes one that is never held.
-- Without a topic, the partition is as it is.
unfoldable pub partition_at : List Topic → Option ℕ → ℕ → ℕ
partition_at topics None p = p
partition_at topics (Some i) p =
    if nat_lt p (partitions_at topics i) then partitions_in (take i topics) + p
    else NO_PARTITION
