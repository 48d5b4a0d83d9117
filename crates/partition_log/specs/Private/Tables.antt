-- What the entries of workers have, by code.
use Rattle.std.specs.Prelude.{◌≡◌, ◌<◌, ◌-◌, ◌==◌, ◌++◌, ℕ, All, Bool, true, false, List, [], ◌∷◌, Vec, drop, if◌then◌else◌, length, map, take}
use Rattle.std.specs.Global.{Global}
use Rattle.csv_ingest.specs.KeyFile.{key_behind, topic_of}
use Rattle.key_counts.specs.Counts.{Entries}
use Rattle.key_counts.specs.Segments.{entries_of, keys_of}
use Rattle.key_counts.specs.declared.merging.Segment.{Segment}
use Rattle.partition_log.specs.Keys.{Key, distinct, id_of, keys_in}
use Rattle.partition_log.specs.Logs.{PartitionLogs, place_in}
use Rattle.partition_log.specs.Private.Shares.{table_of}
use Rattle.partition_log.specs.Taken.{record_taken, taken_records}
use Rattle.partition_log.specs.declared.taken.TakenRecords.{TakenRecords}

-- the key of a record, of what was read: with topics, what stands behind the index of the topic
abbrev pub key_taken : Bool → Key → Key
key_taken false key = key
key_taken true key = key_behind key

-- the topic of a record, of what was read: without topics the first
abbrev pub topic_taken : Bool → Key → ℕ
topic_taken false key = 0
topic_taken true key = topic_of key

-- the keys of all entries, as they were read, in the order of the segments
abbrev pub entry_keys : TakenRecords → List Key
entry_keys taken = keys_of taken.workers.now taken.segments.now

-- the partition of the record whose key was read
abbrev pub place_taken : PartitionLogs → Bool → Key → ℕ
place_taken l has_topics key = place_in l (record_taken has_topics key)

-- the number of its key, among the keys of these records
abbrev pub number_taken : TakenRecords → Key → ℕ
number_taken taken key =
    id_of (distinct (keys_in (taken_records taken))) (key_taken taken.has_topics key)

-- what the entries of one worker have, of what all entries have in the order of the segments
abbrev pub own_values : ℕ → List Segment → List ℕ → List ℕ
own_values w [] all = []
own_values w (s ∷ segments) all =
    let entries = s.to - s.from in
    (if s.worker == w then take entries all else []) ++ own_values w segments (drop entries all)

-- each entry of these workers has what the function says of its key
pub record AreTablesOf (f : Key → ℕ) (workers : List Entries) (tables : List (Vec ℕ Global))
    : Type 0 where
  pub many : length tables ≡ length workers
  pub each : (w : ℕ) → w < length workers
      → table_of tables w ≡ map f (entries_of workers w).keys

-- each code of a record is that of one of its worker's entries
abbrev pub AreWithin : List Entries → Type 0
AreWithin workers =
    All (λ (worker : Entries). All (λ code. code < length worker.keys) worker.codes) workers
