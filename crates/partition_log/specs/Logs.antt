-- Append-only logs of keyed records, one for each partition of one or more topics.
use Rattle.std.specs.Prelude.{◌≡◌, ℕ, ◌<◌, ◌≤◌, ◌==◌, ◌&&◌, ◌||◌, nat_lt, nat_le, not, All, Bool, List, [], ◌∷◌, ◌++◌, length, filter, map, if◌then◌else◌, slice_index_or, slice_set, Contains, Result, Ok, Err}
use Rattle.std.specs.List.{sum}
pub use Rattle.lane_words.specs.Sums.{sum_below}
pub use Rattle.partitioner.specs.Place.{AreCounts, place_in_topic, place_of}
use Rattle.lane_words.specs.declared.limits.TheConstants.{LONGEST_KEY, MOST_PARTITIONS, MOST_RECORDS}
use Rattle.lane_words.specs.declared.Refusal.{Refusal}
use Rattle.lane_words.specs.declared.Refusal.TheVariants as r
use Rattle.partition_log.specs.Keys.{Key, Keyed, is_interned, keys_in, with_key, id_of, key_at, distinct, plain, IsWithoutRepeats}

-- logs: the number of partitions of each topic and in total, the keys by number, and for each
-- partition the key numbers of its records
pub record PartitionLogs : Type 0 where
  pub counts : List ℕ
  pub partitions : ℕ
  pub keys : List Key
  pub logs : List (List ℕ)

-- log p, as numbers of keys
abbrev pub log_at : PartitionLogs → ℕ → List ℕ
log_at l p = slice_index_or l.logs p []

-- log p, as keys
abbrev pub keys_of_log : PartitionLogs → ℕ → List Key
keys_of_log l p = map (key_at l.keys) (log_at l p)

-- how often a key occurs in all logs together
abbrev pub count_in_logs : PartitionLogs → Key → ℕ
count_in_logs l x = sum_below l.partitions (λ p. plain (keys_of_log l p) x)

-- a record's topic is one of the logs' topics
abbrev pub IsOfTopic : PartitionLogs → Keyed → Type 0
IsOfTopic l keyed = keyed.0 < length l.counts

-- the partition that a record goes to
abbrev pub place_in : PartitionLogs → Keyed → ℕ
place_in l keyed = place_in_topic l.counts keyed.0 keyed.1

-- some topic assigns this key to this partition
abbrev pub IsPlaceOf : PartitionLogs → Key → ℕ → Type 0
IsPlaceOf l key place =
    (topic : ℕ) × IsOfTopic l (topic, key) × (place_in l (topic, key) ≡ place)

-- whether a record of this key does not fit a log of this many records: the log is full, or the key
-- is new and the keys are at their limit
abbrev pub exceeds_limits : List Key → ℕ → Key → Bool
exceeds_limits keys records key =
    nat_le MOST_RECORDS records || (not (is_interned keys key) && nat_le MOST_RECORDS (length keys))

-- the same, for the log of this partition
abbrev pub is_full_for : PartitionLogs → ℕ → Key → Bool
is_full_for l place key = exceeds_limits l.keys (length (log_at l place)) key

-- the answer of an append of a record of this key to the log of this partition: the partition and
-- the record's offset, or a refusal
abbrev pub answer_at : PartitionLogs → ℕ → Key → Result (ℕ × ℕ) Refusal
answer_at l place key =
    if nat_lt LONGEST_KEY (length key) then Err r.KeyTooLong
    else if is_full_for l place key then Err r.LogFull
    else Ok (place, length (log_at l place))

-- the same, of a record that goes to its place
abbrev pub append_answer : PartitionLogs → Keyed → Result (ℕ × ℕ) Refusal
append_answer l keyed = answer_at l (place_in l keyed) keyed.1

-- the logs with one more record at the end of the log of this partition, and nothing else changed
abbrev pub with_record_at : PartitionLogs → ℕ → Key → PartitionLogs
with_record_at l place key = record l {
  keys = with_key l.keys key;
  logs = slice_set l.logs place (log_at l place ++ id_of l.keys key ∷ []);
}

-- the same, of a record that goes to its place
abbrev pub with_record : PartitionLogs → Keyed → PartitionLogs
with_record l keyed = with_record_at l (place_in l keyed) keyed.1

-- an entry of log p is the number of a key that some topic assigns to p
pub record IsEntryOf (l : PartitionLogs) (p number : ℕ) : Type 0 where
  pub numbered : number < length l.keys
  pub placed : IsPlaceOf l (key_at l.keys number) p

-- the key of a number has a record in some log
abbrev pub IsUsed : PartitionLogs → ℕ → Type 0
IsUsed l number = (p : ℕ) × (p < l.partitions) × Contains (log_at l p) number

-- the invariant of logs
pub record IsValidLogs (l : PartitionLogs) : Type 0 where
  pub counted : AreCounts l.counts
  pub in_all : l.partitions ≡ sum l.counts
  pub some_partitions : 1 ≤ l.partitions
  pub few_partitions : l.partitions ≤ MOST_PARTITIONS
  pub a_log_each : length l.logs ≡ l.partitions
  pub without_repeats : IsWithoutRepeats l.keys
  pub short : (n : ℕ) → n < length l.keys → length (key_at l.keys n) ≤ LONGEST_KEY
  pub entries : (p i : ℕ) → i < length (log_at l p)
      → IsEntryOf l p (slice_index_or (log_at l p) i 0)
  pub used : (n : ℕ) → n < length l.keys → IsUsed l n
  pub few_keys : length l.keys ≤ MOST_RECORDS
  pub few_records : (p : ℕ) → length (log_at l p) ≤ MOST_RECORDS

-- these are the logs of a list of records, appended one after another: the keys are the distinct
-- keys of the list, in order of first appearance, and log p has the keys of the records that go to
-- p, in order
pub record AreLogsOf (appended : List Keyed) (l : PartitionLogs) : Type 0 where
  pub topics : All (IsOfTopic l) appended
  pub numbers : l.keys ≡ distinct (keys_in appended)
  pub records : (p : ℕ) → p < l.partitions
      → keys_of_log l p ≡ keys_in (filter (λ keyed. place_in l keyed == p) appended)
