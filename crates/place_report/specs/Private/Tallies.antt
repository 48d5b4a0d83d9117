-- The key numbers of a log, counted.
use Rattle.std.specs.Prelude.{◌≡◌, ◌<◌, ℕ, List, length, option_map, slice_index_or, IfSome}
use Rattle.key_index.specs.Keys.{Key, distinct, key_at}
use Rattle.keyed_table.specs.Counts.{plain}
use Rattle.partition_log.specs.Logs.{PartitionLogs, keys_of_log}
use Rattle.partitioner.specs.declared.topic.Topic.{Topic}
use Rattle.report_rows.specs.ReplayRows.{rows_below}
use Rattle.place_report.specs.PlaceRows.{largest_of, most_of, partition_row}
use Rattle.place_report.specs.declared.tally.Tally.{Tally}

-- each counter is how often its number occurs in the list
abbrev pub AreCountsOf : List ℕ → List ℕ → Type 0
AreCountsOf ids counters =
    (x : ℕ) → x < length counters → slice_index_or counters x 0 ≡ plain ids x

-- the tally of a log, of which these are the keys; all keys have these names
pub record IsTallyOf (all keys : List Key) (tally : Tally) : Type 0 where
  pub different : tally.keys ≡ length (distinct keys)
  pub most : tally.most ≡ most_of keys
  pub largest : option_map (key_at all) tally.largest ≡ largest_of keys
  pub numbered : IfSome tally.largest (λ id. id < length all)

-- the rows of all partitions of logs
abbrev pub partition_rows : List Topic → PartitionLogs → List ℕ
partition_rows topics l =
    rows_below l.partitions (λ p. partition_row topics p (keys_of_log l p))
