-- Topics, and their partitions, which are counted over all topics.
use Rattle.std.specs.Prelude.{◌≡◌, ◌≢◌, ℕ, ◌≤◌, true, List, length}
use Rattle.std.specs.List.{All, AllPairs, slice_get, sum_by}
use Rattle.std.specs.Option.{option_map_or}
use Rattle.lane_words.specs.declared.limits.TheConstants.{MOST_PARTITIONS, MOST_TOPICS}
use Rattle.partitioner.specs.Name.{is_name}
use Rattle.partitioner.specs.declared.topic.Topic.{Topic}

-- the number of partitions of topics
abbrev pub partitions_in : List Topic → ℕ
partitions_in topics = sum_by (λ topic. topic.partitions) topics

-- no topics, or up to `MOST_TOPICS`, each with a name that no other has and with a partition, and
-- at most `MOST_PARTITIONS` partitions in all
pub record MayBeTopics (topics : List Topic) : Type 0 where
  pub few : length topics ≤ MOST_TOPICS
  pub named : All (λ topic. is_name topic.name ≡ true) topics
  pub distinct : AllPairs (λ topic later. topic.name ≢ later.name) topics
  pub each : All (λ topic. 1 ≤ topic.partitions) topics
  pub within : partitions_in topics ≤ MOST_PARTITIONS

-- at least one topic
pub record AreTopics (topics : List Topic) : Type 0 where
  pub some : 1 ≤ length topics
  pub valid : MayBeTopics topics

-- the number of partitions of the topic of this index
abbrev pub partitions_at : List Topic → ℕ → ℕ
partitions_at topics i = option_map_or (λ topic. topic.partitions) (slice_get topics i) 0
