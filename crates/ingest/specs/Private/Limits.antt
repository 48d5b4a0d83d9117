-- What a check of limits does with a record, and with the entries that workers counted.
use Rattle.std.specs.Prelude.{◌≡◌, ℕ, ◌<◌, ◌+◌, ◌-◌, ◌^◌, ◌==◌, Bool, List, cond, if◌then◌else◌, min, nat_le, Option, Some, None, replicate, slice_index, slice_set}
use Rattle.std.specs.List.{list_any, sum}
use Rattle.lane_words.specs.declared.Refusal.{Refusal}
use Rattle.lane_words.specs.declared.Refusal.TheVariants as r
use Rattle.lane_words.specs.declared.limits.TheConstants.{MOST_RECORDS}
use Rattle.key_counts.specs.Counts.{Entries}
use Rattle.partition_log.specs.Keys.{Key, Keyed}
use Rattle.ingest.specs.Limits.{Limits, is_too_long, record_taken}
use Rattle.ingest.specs.Records.{partition_of_record}

-- no records
abbrev pub no_records : List ℕ → Bool → Limits
no_records counts has_topics = record {
  counts = counts;
  has_topics = has_topics;
  lens = replicate (sum counts) 0;
  fault = None;
}

-- why a record can't be appended to partitions with these numbers of records
abbrev pub fault_at : List ℕ → List ℕ → Keyed → Option Refusal
fault_at counts lens keyed =
    if is_too_long keyed.1 then Some r.KeyTooLong
    else if nat_le MOST_RECORDS (slice_index lens (partition_of_record counts keyed))
    then Some r.LogFull
    else None

-- the numbers of records with one more in this partition
abbrev pub with_one : List ℕ → ℕ → List ℕ
with_one lens p = slice_set lens p (slice_index lens p + 1)

-- 1 for a key whose record goes to this partition, 0 for any other
abbrev pub goes_to : List ℕ → Bool → ℕ → Key → ℕ
goes_to counts has_topics p key =
    cond (partition_of_record counts (record_taken has_topics key) == p) 1 0

-- whether the record of a key that was read has too long a key
abbrev pub has_long_key : Bool → Key → Bool
has_long_key has_topics key = is_too_long (record_taken has_topics key).1

-- the same, of any of these
abbrev pub have_long_keys : Bool → List Key → Bool
have_long_keys has_topics keys = list_any (has_long_key has_topics) keys

-- the fault if an entry of workers has too long a key
abbrev pub long_fault_of : Bool → List Entries → Option Refusal
long_fault_of has_topics workers =
    if list_any (λ worker. have_long_keys has_topics worker.keys) workers
    then Some r.KeyTooLong
    else None

-- records were added: `sums f` is the sum of f over their keys, and `long` tells whether one has
-- too long a key. A number of records is exact as long as it has 64 bits.
pub record Adds (old : Limits) (sums : (Key → ℕ) → ℕ) (long : Bool)
    (new : Limits) : Type 0 where
  pub same_counts : new.counts ≡ old.counts
  pub same_topics : new.has_topics ≡ old.has_topics
  pub fault : new.fault ≡ (if long then Some r.KeyTooLong else old.fault)
  pub lens : (p : ℕ) → p < sum old.counts
      → slice_index old.lens p + sums (goes_to old.counts old.has_topics p) < 2 ^ 64
      → slice_index new.lens p
      ≡ slice_index old.lens p + sums (goes_to old.counts old.has_topics p)

-- the number of records of a partition with more of them, which stays below 2^64
abbrev pub raised : List ℕ → ℕ → ℕ → List ℕ
raised lens p records = slice_set lens p (min (slice_index lens p + records) (2 ^ 64 - 1))
