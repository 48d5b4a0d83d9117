-- Committed offsets and the counts of the records below them, which change together.
use Rattle.std.specs.Prelude.{◌≡◌, ℕ, ◌+◌, ◌<◌, ◌≤◌, ◌^◌, ◌==◌, nat_lt, not, List, length, take, sum, if◌then◌else◌, slice_index_or, slice_range, slice_set, Result, Ok, Err}
use Rattle.std.specs.Str.{bytes_eq}
use Rattle.lane_words.specs.declared.limits.TheConstants.{MOST_PARTITIONS}
use Rattle.lane_words.specs.declared.Refusal.{Refusal}
use Rattle.lane_words.specs.declared.Refusal.TheVariants as r
pub use Rattle.partition_log.specs.Keys.{Key, Keyed, id_of, keys_in, plain}
pub use Rattle.partition_log.specs.Logs.{PartitionLogs, IsPlaceOf, IsValidLogs, AreLogsOf, append_answer, keys_of_log, log_at, sum_below, with_record_at}
unfoldable pub use Rattle.keyed_table.specs.Counts.{raised}

-- the committed offset of each partition, which is the offset of the next record to read; the
-- counter of each key number; and the capacity for more counters
pub record Commits : Type 0 where
  pub offsets : List ℕ
  pub counts : List ℕ
  pub capacity : ℕ

-- the committed offset of a partition
abbrev pub committed_at : Commits → ℕ → ℕ
committed_at s p = slice_index_or s.offsets p 0

-- the counter of a key number; 0 if it has none
abbrev pub count_at : Commits → ℕ → ℕ
count_at s n = slice_index_or s.counts n 0

-- the key numbers in log p at the offsets from `from` on, below `to`
abbrev pub records_between : PartitionLogs → ℕ → ℕ → ℕ → List ℕ
records_between l p from to = slice_range (log_at l p) from to

-- The answer to a commit of these key numbers of log p from offset `from` on, with this committed
-- offset: the new committed offset, or the first that applies of: no records; not from the
-- committed offset on, which the refusal reports; past the log's end; other records than the log's
abbrev pub offset_answer : PartitionLogs → ℕ → ℕ → ℕ → List ℕ → Result ℕ Refusal
offset_answer l p committed from ids =
    if length ids == 0 then Err r.EmptyCommit
    else if not (from == committed) then Err (r.OffsetMismatch committed)
    else if nat_lt (length (log_at l p)) (from + length ids) then Err r.PastEnd
    else if not (bytes_eq (records_between l p from (from + length ids)) ids)
    then Err r.WrongRecords
    else Ok (from + length ids)

-- the same for a store
abbrev pub commit_answer : Commits → PartitionLogs → ℕ → ℕ → List ℕ → Result ℕ Refusal
commit_answer s l p from ids = offset_answer l p (committed_at s p) from ids

-- a commit fits: it has records, and they are those of log p from the committed offset on
pub record Fits (s : Commits) (l : PartitionLogs) (p from : ℕ) (ids : List ℕ) : Type 0 where
  pub some : 0 < length ids
  pub next : from ≡ committed_at s p
  pub within : from + length ids ≤ length (log_at l p)
  pub same : records_between l p from (from + length ids) ≡ ids

-- the store after a commit: the offset past its records, each counter higher by how often its key
-- is among them, and nothing else changed
abbrev pub with_commit : Commits → ℕ → List ℕ → Commits
with_commit s p ids = record s {
  offsets = slice_set s.offsets p (committed_at s p + length ids);
  counts = raised s.counts ids;
}

-- the number of times that a key is in the committed parts of all logs
abbrev pub committed_count : Commits → PartitionLogs → Key → ℕ
committed_count s l x =
    sum_below l.partitions (λ p. plain (take (committed_at s p) (keys_of_log l p)) x)

-- A store is exact over logs: no committed offset is past its log's end, and the counter of each
-- key is the number of times that the key is in the records below the committed offsets
pub record IsExact (s : Commits) (l : PartitionLogs) : Type 0 where
  pub within : (p : ℕ) → committed_at s p ≤ length (log_at l p)
  pub counted : (x : Key) → count_at s (id_of l.keys x) ≡ committed_count s l x
  pub spare : (n : ℕ) → length l.keys ≤ n → count_at s n ≡ 0

-- the ends of all logs are committed
abbrev pub AreEndsCommitted : Commits → PartitionLogs → Type 0
AreEndsCommitted s l = (p : ℕ) → p < l.partitions → committed_at s p ≡ length (log_at l p)

-- a store is exact over valid logs, and the ends of all of them are committed
pub record IsFullyCommitted (s : Commits) (l : PartitionLogs) : Type 0 where
  pub valid : IsValidLogs l
  pub exact : IsExact s l
  pub ends : AreEndsCommitted s l

-- the counter of each key is the number of times that it is among these
abbrev pub HasPlainCounts : Commits → PartitionLogs → List Key → Type 0
HasPlainCounts s l appended = (x : Key) → count_at s (id_of l.keys x) ≡ plain appended x

-- the invariant of a store: its counters add up to its committed offsets, so no sum overflows
pub record IsValidStore (s : Commits) : Type 0 where
  pub some : 1 ≤ length s.offsets
  pub few : length s.offsets ≤ MOST_PARTITIONS
  pub small : (p : ℕ) → committed_at s p < 2 ^ 32
  pub adds_up : sum s.counts ≡ sum s.offsets
