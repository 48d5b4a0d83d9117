-- The records of each key in each topic, counted by key number.
use Rattle.std.specs.Prelude.{◌≡◌, ◌<◌, ◌+◌, ℕ, List, [], length, slice_index_or}
use Rattle.keyed_table.specs.Counts as table
use Rattle.partition_log.specs.Keys.{key_at, plain}
use Rattle.partition_log.specs.Logs.{PartitionLogs, keys_of_log, log_at, place_in, sum_below}
use Rattle.partitioner.specs.declared.topic.Topic.{Topic}
use Rattle.report_rows.specs.ReplayRows.{rows_below}
use Rattle.place_report.specs.PlaceRows.{key_row}

-- how often a key number occurs in the logs below p
abbrev pub so_far : PartitionLogs → ℕ → ℕ → ℕ
so_far l p n = sum_below p (λ q. table.plain (log_at l q) n)

-- the counters of the logs from one on, below another
pub record AreCountsBetween (l : PartitionLogs) (from to : ℕ) (counts : List ℕ) : Type 0 where
  pub one_each : length counts ≡ length l.keys
  pub counted : (n : ℕ) → n < length l.keys
      → so_far l from n + slice_index_or counts n 0 ≡ so_far l to n

-- the counters of the topic of this index: how often each key occurs in its partition there
pub record AreTopicCounts (l : PartitionLogs) (t : ℕ) (counts : List ℕ) : Type 0 where
  pub one_each : length counts ≡ length l.keys
  pub counted : (n : ℕ) → n < length l.keys
      → slice_index_or counts n 0 ≡ table.plain (log_at l (place_in l (t, key_at l.keys n))) n

-- the counters of each topic
pub record HaveTopicCounts (l : PartitionLogs) (tables : List table.Counters) : Type 0 where
  pub one_each : length tables ≡ length l.counts
  pub counts : (t : ℕ) (d : table.Counters) → t < length tables
      → AreTopicCounts l t (slice_index_or tables t d).counts

-- the rows of the key of this number: in each topic that has records of it
abbrev pub rows_of_key : List Topic → PartitionLogs → ℕ → List ℕ
rows_of_key topics l n =
    rows_below (length l.counts) (λ t. let p = place_in l (t, key_at l.keys n) in
    key_row topics (key_at l.keys n) p (plain (keys_of_log l p) (key_at l.keys n)))

-- the rows of all keys
abbrev pub all_key_rows : List Topic → PartitionLogs → List ℕ
all_key_rows topics l = rows_below (length l.keys) (rows_of_key topics l)
