-- Where Kafka puts a keyed record (BuiltInPartitioner.partitionForKey, Utils.toPositive).
-- Partitions are numbered over all topics: those of a topic follow those of the topics before it.
use Rattle.std.specs.Prelude.{ℕ, ◌≡◌, ◌+◌, ◌<◌, ◌≤◌, ◌^◌, ◌%◌, All, List, length, slice_index_or, take}
use Rattle.std.specs.List.{sum}
use Rattle.lane_words.specs.declared.limits.TheConstants.{MOST_PARTITIONS, MOST_TOPICS}
use Rattle.murmur_lanes.specs.Murmur.{hash_of}

-- the hash of a key without its highest bit
unfoldable pub positive_hash : List ℕ → ℕ
positive_hash key = hash_of key % 2 ^ 31

-- the partition of a key among this many
unfoldable pub place_of : ℕ → List ℕ → ℕ
place_of partitions key = positive_hash key % partitions

-- the number of partitions of the topics before this one, given the topics' numbers of partitions
abbrev pub partitions_before : List ℕ → ℕ → ℕ
partitions_before counts topic = sum (take topic counts)

-- the partition of a key in this topic
abbrev pub place_in_topic : List ℕ → ℕ → List ℕ → ℕ
place_in_topic counts topic key =
    partitions_before counts topic + place_of (slice_index_or counts topic 0) key

-- the numbers of partitions of 1 to 8 topics: each topic has a partition, and all together have at
-- most 4096
pub record AreCounts (counts : List ℕ) : Type 0 where
  pub some : 1 ≤ length counts
  pub few : length counts ≤ MOST_TOPICS
  pub each : All (λ n. 1 ≤ n) counts
  pub within : sum counts ≤ MOST_PARTITIONS

-- a topic for each of a number of keys, as its index among count topics
pub record AreTopics (count keys : ℕ) (topics : List ℕ) : Type 0 where
  pub as_many : length topics ≡ keys
  pub among : All (λ topic. topic < count) topics
