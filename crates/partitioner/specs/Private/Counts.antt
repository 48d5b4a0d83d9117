-- Numbers of partitions in an array of eight, and partitions computed from hashes.
use Rattle.std.specs.Prelude.{ℕ, ◌≡◌, ◌<◌, ◌+◌, ◌-◌, ◌%◌, ◌++◌, List, length, replicate, slice_index_or, take}
use Rattle.partitioner.specs.Place.{partitions_before}
use Rattle.lane_words.specs.declared.limits.TheConstants.{MOST_TOPICS}

-- the array holds a number for each topic, followed by zeros
pub record IsPadded (counts : List ℕ) (topics : ℕ) : Type 0 where
  pub many : length (take topics counts) ≡ topics
  pub padded : take topics counts ++ replicate (MOST_TOPICS - length (take topics counts)) 0
      ≡ counts

-- the partition in a topic of a key with this hash
abbrev pub place_of_hash : List ℕ → ℕ → ℕ → ℕ
place_of_hash counts topic hash =
    partitions_before counts topic + hash % slice_index_or counts topic 0

-- these are the partitions of keys with these hashes; a function gives the topic of each
pub record ArePlaces (counts : List ℕ) (topic : ℕ → ℕ) (hashes places : List ℕ) : Type 0 where
  pub as_many : length places ≡ length hashes
  pub each : (i : ℕ) → i < length hashes
      → slice_index_or places i 0 ≡ place_of_hash counts (topic i) (slice_index_or hashes i 0)
