-- The limits on records that are counted and not kept.
use Rattle.std.specs.Prelude.{◌≡◌, ◌<◌, ◌≤◌, ℕ, ◌==◌, All, Bool, List, [], ◌++◌, filter, length, if◌then◌else◌, nat_lt, Option, Some, None, slice_index}
use Rattle.std.specs.List.{list_any, sum}
use Rattle.lane_words.specs.declared.Refusal.{Refusal}
use Rattle.lane_words.specs.declared.Refusal.TheVariants as r
use Rattle.lane_words.specs.declared.limits.TheConstants.{LONGEST_KEY, MOST_RECORDS}
use Rattle.key_counts.specs.Counts.{Entries}
use Rattle.key_counts.specs.Rounds.{HaveTaken}
use Rattle.partition_log.specs.Keys.{Key, Keyed, distinct, keys_in}
use Rattle.ingest.specs.RecordFaults.{first_fault}
use Rattle.ingest.specs.Records.{AreOfTopics, partition_of_record}
pub use Rattle.partition_log.specs.Taken.{record_taken, records_taken}

-- whether a key is too long for a log
abbrev pub is_too_long : Key → Bool
is_too_long key = nat_lt LONGEST_KEY (length key)

-- the fault if one of these keys is too long
abbrev pub long_fault : List Key → Option Refusal
long_fault keys = if list_any is_too_long keys then Some r.KeyTooLong else None

-- how many of these records go to this partition
abbrev pub records_in_partition : List ℕ → List Keyed → ℕ → ℕ
records_in_partition counts records p =
    length (filter (λ keyed. partition_of_record counts keyed == p) records)

-- what is known of limits: the number of partitions of each topic; whether keys stand behind the
-- index of their topic; how many records each partition has; why the first record that can't be
-- appended can't
pub record Limits : Type 0 where
  pub counts : List ℕ
  pub has_topics : Bool
  pub lens : List ℕ
  pub fault : Option Refusal

-- that is known after these records; nothing is said of the partitions once there is a fault
pub record IsLimitCheck (counts : List ℕ) (has_topics : Bool) (records : List Keyed)
    (check : Limits) : Type 0 where
  pub counts_are : check.counts ≡ counts
  pub topics_are : check.has_topics ≡ has_topics
  pub fault : check.fault ≡ first_fault counts [] records
  pub lens : check.fault ≡ None → (p : ℕ) → p < sum counts
      → slice_index check.lens p ≡ records_in_partition counts records p

-- a check begins after the records that workers took, if they are too few to fill a log
abbrev pub BeginsAfter : List ℕ → Bool → List Entries → Limits → Type 0
BeginsAfter counts has_topics workers check =
    (taken order : List Key) → HaveTaken taken order workers → length taken ≤ MOST_RECORDS
    → IsLimitCheck counts has_topics (records_taken has_topics taken) check

-- a check goes on with the records of these keys, if there are fewer different keys than a table
-- can have
abbrev pub GoesOn : Limits → List Key → Limits → Type 0
GoesOn old keys new =
    (counts : List ℕ) (has_topics : Bool) (before : List Keyed)
    → let records = before ++ records_taken has_topics keys in
    IsLimitCheck counts has_topics before old
    → length (distinct (keys_in records)) < MOST_RECORDS
    → IsLimitCheck counts has_topics records new

-- a check goes on with the records of these keys, if all of them are of its topics
pub record ChecksKeys (old : Limits) (keys : List Key) (new : Limits) : Type 0 where
  pub same_counts : new.counts ≡ old.counts
  pub same_topics : new.has_topics ≡ old.has_topics
  pub state : AreOfTopics old.counts (records_taken old.has_topics keys) → GoesOn old keys new

-- workers' entries are of topics with these numbers of partitions
abbrev pub AreEntriesOfTopics : List ℕ → Bool → List Entries → Type 0
AreEntriesOfTopics counts has_topics workers =
    All (λ worker. AreOfTopics counts (records_taken has_topics worker.keys)) workers
