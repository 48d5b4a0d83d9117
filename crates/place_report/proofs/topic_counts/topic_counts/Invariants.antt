use Rattle.std.proofs.Common.{◌≡◌, ◌<◌, ℕ, length, slice_index_or}
use Rattle.keyed_table.specs.Counts.{Counters}
use Rattle.partitioner.specs.Place.{partitions_before}
use Rattle.place_report.specs.Private.KeyCounts.{AreTopicCounts}
use Rattle.place_report.proofs.topic_counts.topic_counts.Given as goal

abbrev pub invariant-loop-t : goal.invariant-loop-t
invariant-loop-t l = record {
  one_each : length l.tables.items ≡ l.t;
  from : l.from ≡ partitions_before l.logs.counts l.t;
  counts : (t : ℕ) (d : Counters) → t < l.t → AreTopicCounts l.logs t (slice_index_or l.tables.items t d).counts;
}
