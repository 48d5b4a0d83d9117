-- The partitions of records, and the lengths of their logs.
use Rattle.std.proofs.Common.{◌≡◌, ◌∙◌, ◌<◌, ℕ, List, [], ◌∷◌, length, map, sym, ap, arith}
use Rattle.std.specs.Prelude.{◌==◌, ◌≤◌, filter}
use Rattle.std.specs.List.{sum}
use Rattle.std.proofs.lemmas.List.{length-map}
use Rattle.std.proofs.lemmas.List.Elements.{All-cons, All-map, All-nil}
use Rattle.std.proofs.lemmas.List.Sums.{sum-map}
use Rattle.lane_words.specs.declared.limits.TheConstants.{MOST_PARTITIONS}
use Rattle.partition_log.specs.Keys.{Keyed, key_at}
use Rattle.partition_log.specs.Logs.{AreCounts, AreLogsOf, IsValidLogs, PartitionLogs, log_at, place_in}
use Rattle.partitioner.specs.Topic.{MayBeTopics}
use Rattle.partitioner.specs.declared.topic.Topic.{Topic}
use Rattle.command_line.specs.Options.{AreInRange}
use Rattle.command_line.specs.declared.options.Options.{Options}
use Rattle.ingest.specs.Records.{counts_among, partition_counts, partition_of_record}

pub partitions-are : (l : PartitionLogs) (counts : List ℕ) → IsValidLogs l → l.counts ≡ counts → l.partitions ≡ sum counts
partitions-are l counts a same = a.in_all ∙ ap sum same

pub partition-is : (l : PartitionLogs) (counts : List ℕ) (keyed : Keyed) → l.counts ≡ counts → place_in l keyed ≡ partition_of_record counts keyed
partition-is l counts keyed same = ap (λ cs. partition_of_record cs keyed) same

pub log-long : (l : PartitionLogs) (counts : List ℕ) (records : List Keyed) (p : ℕ) → l.counts ≡ counts → AreLogsOf records l → p < l.partitions
    → length (log_at l p) ≡ length (filter (λ keyed. partition_of_record counts keyed == p) records)
log-long l counts records p same h lt =
    sym (length-map (log_at l p) (key_at l.keys)) ∙ ap length (h.records p lt) ∙ length-map (filter (λ (keyed : Keyed). place_in l keyed == p) records) (λ keyed. keyed.1)
    ∙ ap (λ cs. length (filter (λ (keyed : Keyed). partition_of_record cs keyed == p) records)) same

-- ---- the numbers of partitions
one-count : (partitions : ℕ) → 1 ≤ partitions → partitions ≤ MOST_PARTITIONS → AreCounts (partitions ∷ [])
one-count partitions some few = record {
  some = omega arith;
  few = omega arith;
  each = All-cons (λ n. 1 ≤ n) partitions [] some (All-nil (λ n. 1 ≤ n));
  within = omega arith;
}

named-counts : (topic : Topic) (topics : List Topic) → MayBeTopics (topic ∷ topics) → AreCounts (map (λ (t : Topic). t.partitions) (topic ∷ topics))
named-counts topic topics may =
    let long = length-map (topic ∷ topics) (λ (t : Topic). t.partitions) in
    let total = sum-map (λ (t : Topic). t.partitions) (topic ∷ topics) in
    record {
      some = omega (arith, long);
      few = omega (arith, long, may.few);
      each = All-map (λ n. 1 ≤ n) (λ (t : Topic). t.partitions) (topic ∷ topics) may.each;
      within = omega (arith, total, may.within);
    }

pub counts-valid : (options : Options) → AreInRange options → AreCounts (partition_counts options)
counts-valid options h = go options.topics.items h.topics
  where
    go : (topics : List Topic) → MayBeTopics topics → AreCounts (counts_among options.partitions topics)
    go [] may = one-count options.partitions h.partitions.0 h.partitions.1
    go (topic ∷ topics) may = named-counts topic topics may
