-- A cluster: a group, the logs that it reads, and the store of committed offsets and counts.
use Rattle.std.specs.Prelude.{◌≡◌, ℕ, true, not, ◌==◌, List, [], ◌∷◌, ◌++◌, Result, Ok, Err, length, slice_index_or, if◌then◌else◌}
use Rattle.std.specs.Result.{result_and}
use Rattle.lane_words.specs.declared.Refusal.{Refusal}
use Rattle.lane_words.specs.declared.Refusal.TheVariants as r
use Rattle.bit_planes.specs.PartitionSet.{PartitionSet, is_in}
pub use Rattle.partition_log.specs.Appends.{GrowByRecords, GrowsByKeyAt}
pub use Rattle.partition_log.specs.Keys.{Key, Keyed, is_interned, of_first}
pub use Rattle.partition_log.specs.Logs.{AreCounts, IsOfTopic, IsPlaceOf, answer_at, place_in}
pub use Rattle.commit_store.specs.Commits.{IsValidLogs, AreLogsOf, Commits, Fits, IsExact, PartitionLogs, append_answer, commit_answer, committed_at, with_commit, with_record_at}
use Rattle.group_machine.specs.State.{GroupState, assigned_of, granted_of, is_present}
use Rattle.group_machine.specs.Valid.{IsValidGroup}
use Rattle.group_machine.specs.Steps.{sync_answer}

-- a commit: its member, the generation in which it was sent, and its records, which are those of a
-- partition from an offset on, by their key numbers
pub record CommitTerms : Type 0 where
  pub member : ℕ
  pub generation : ℕ
  pub partition : ℕ
  pub from : ℕ
  pub ids : List ℕ

-- a lease: what a member is assigned in a generation, and the committed offset of each partition
pub record LeaseTerms : Type 0 where
  pub member : ℕ
  pub generation : ℕ
  pub assigned : PartitionSet
  pub starts : List ℕ

-- the committed offset of a partition in a lease
abbrev pub start_of : LeaseTerms → ℕ → ℕ
start_of lease p = slice_index_or lease.starts p 0

-- the group, the logs and the store, whose reserved capacity is no part of the state: always 0 here
pub record ClusterState : Type 0 where
  pub group : GroupState
  pub logs : PartitionLogs
  pub store : Commits

-- a store without its reserved capacity
abbrev pub without_capacity : Commits → Commits
without_capacity s = record s { capacity = 0 }

-- The invariant of a cluster: its group is valid, its store is exact over its logs, all three have
-- the same number of partitions, and each key has a counter
pub record IsValidCluster (s : ClusterState) : Type 0 where
  pub group : IsValidGroup s.group
  pub logs : IsValidLogs s.logs
  pub exact : IsExact s.store s.logs
  pub logs_partitions : s.logs.partitions ≡ s.group.partitions
  pub store_partitions : length s.store.offsets ≡ s.group.partitions
  pub a_counter_each : length s.store.counts ≡ length s.logs.keys

-- ---- commit
-- Whether the group accepts a commit, in this order: its member is not present; it is of another
-- generation, so its sender has missed a rebalance; its partition is not granted to the member.
-- This fences members that were lost or lag behind (KIP-429: their partitions count as lost). The
-- store decides about the rest
abbrev pub fence : GroupState → CommitTerms → Result (Unit {0}) Refusal
fence g c =
    if not (is_present g c.member) then Err r.UnknownMember
    else if not (c.generation == g.generation) then Err r.StaleGeneration
    else if not (is_in (granted_of g c.member) c.partition) then Err r.NotOwner
    else Ok tt

abbrev pub cluster_commit_answer : ClusterState → CommitTerms → Result ℕ Refusal
cluster_commit_answer s c =
    result_and (fence s.group c) (commit_answer s.store s.logs c.partition c.from c.ids)

-- a commit is due: its member is present, of this generation and granted the partition, and the
-- store accepts it
pub record IsDue (s : ClusterState) (c : CommitTerms) : Type 0 where
  pub present : is_present s.group c.member ≡ true
  pub current : c.generation ≡ s.group.generation
  pub granted : is_in (granted_of s.group c.member) c.partition ≡ true
  pub fits : Fits s.store s.logs c.partition c.from c.ids

-- the cluster after an accepted commit: only the store changes
abbrev pub committed_by : ClusterState → CommitTerms → ClusterState
committed_by s c = record s { store = with_commit s.store c.partition c.ids }

-- ---- append
-- the store with a counter at 0 for a new key
abbrev pub with_counter_for : PartitionLogs → Key → Commits → Commits
with_counter_for l key store =
    if is_interned l.keys key then store else (record store { counts = store.counts ++ 0 ∷ [] })

-- one more record at the end of the log of this partition, and a counter at 0 for a new key
abbrev pub appended_at : ClusterState → ℕ → Key → ClusterState
appended_at s place key = record s {
  logs = with_record_at s.logs place key;
  store = with_counter_for s.logs key s.store;
}

-- the same at the partition of the record's key
abbrev pub appended_to : ClusterState → Keyed → ClusterState
appended_to s keyed = appended_at s (place_in s.logs keyed) keyed.1

-- ---- sync
-- the lease of a member: what it is assigned, and the committed offsets
abbrev pub lease_of : ClusterState → ℕ → LeaseTerms
lease_of s member = record {
  member = member;
  generation = s.group.generation;
  assigned = assigned_of s.group member;
  starts = s.store.offsets;
}

abbrev pub cluster_sync_answer : ClusterState → ℕ → Result LeaseTerms Refusal
cluster_sync_answer s member = result_and (sync_answer s.group member) (Ok (lease_of s member))

-- a step that changes the group alone
abbrev pub with_group : ClusterState → GroupState → ClusterState
with_group s group = record s { group = group }
