-- Records that workers took, of which each has the code of its key's entry.
use Rattle.std.specs.Prelude.{◌<◌, ℕ, All, Bool, true, false, List, [], length, map, replicate}
use Rattle.std.specs.List.{sum}
use Rattle.csv_ingest.specs.KeyFile.{key_behind, topic_of}
use Rattle.key_counts.specs.Recorded.{all_records}
use Rattle.key_counts.specs.Rounds.{AreSegmented, HaveTaken}
use Rattle.key_counts.specs.Segments.{IsSegment, keys_of}
use Rattle.partition_log.specs.Appends.{AreAppended, placed}
use Rattle.partition_log.specs.Keys.{Key, Keyed, of_first}
use Rattle.partition_log.specs.Logs.{PartitionLogs}
use Rattle.partition_log.specs.declared.taken.TakenRecords.{TakenRecords}

-- a record whose key was read after the index of its topic
abbrev pub record_of : Key → Keyed
record_of key = (topic_of key, key_behind key)

-- the record of a key that was read: with topics, the key stands behind the index of its topic
abbrev pub record_taken : Bool → Key → Keyed
record_taken false key = of_first key
record_taken true key = record_of key

-- the records of keys that were read
abbrev pub records_taken : Bool → List Key → List Keyed
records_taken has_topics keys = map (record_taken has_topics) keys

-- the keys as they were read, chunk by chunk
abbrev pub keys_taken : TakenRecords → List Key
keys_taken taken = keys_of (all_records taken.workers.now) taken.chunks.now

-- the records
abbrev pub taken_records : TakenRecords → List Keyed
taken_records taken = records_taken taken.has_topics (keys_taken taken)

-- workers took these records together, and segments have their entries
pub record AreTaken (taken : TakenRecords) : Type 0 where
  pub chunks : All (IsSegment (all_records taken.workers.now)) taken.chunks.now
  pub lens : List ℕ
  pub parts : AreSegmented taken.workers.now taken.segments.now lens
  pub so : HaveTaken (keys_taken taken) (keys_of taken.workers.now taken.segments.now)
      taken.workers.now

-- each record is of one of the topics that have these numbers of partitions
abbrev pub AreOfTopics : List ℕ → List Keyed → Type 0
AreOfTopics counts records = All (λ keyed. keyed.0 < length counts) records

-- logs of topics with these numbers of partitions, without records
abbrev pub empty_logs : List ℕ → PartitionLogs
empty_logs counts = record {
  counts = counts;
  partitions = sum counts;
  keys = [];
  logs = replicate (sum counts) [];
}

-- these are the logs of topics with these numbers of partitions, to which the records were appended
-- one after another
abbrev pub AreLogsWith : List ℕ → List Keyed → PartitionLogs → Type 0
AreLogsWith counts records l =
    AreAppended (empty_logs counts) (placed (empty_logs counts) records) l
