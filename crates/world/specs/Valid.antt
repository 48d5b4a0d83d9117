-- The invariant of a world.
use Rattle.std.specs.Prelude.{◌≡◌, ℕ, ◌+◌, ◌<◌, ◌≤◌, ◌↔◌, true, List, Some, length, slice_get, slice_range}
use Rattle.bit_planes.specs.PartitionSet.{is_in}
use Rattle.partition_log.specs.Keys.{Keyed}
use Rattle.partition_log.specs.Logs.{PartitionLogs, log_at}
use Rattle.commit_store.specs.Commits.{AreEndsCommitted}
use Rattle.group_machine.specs.State.{GroupState, assigned_of, granted_of, is_present, is_synced}
use Rattle.group_machine.specs.Cluster.{AreLogsOf, ClusterState, CommitTerms, IsValidCluster, committed_at}
use Rattle.consumer.specs.Consumer.{ConsumerState, IsValidConsumer, IsWithinLogs, base_of, is_held}
use Rattle.world.specs.declared.event.TheConstants.{MOST_COMMITS}
use Rattle.world.specs.World.{WorldState, consumer_of}

-- The consumer of member m, present or not: it is out or that member's; it is past neither what is
-- committed nor the end of a log
pub record IsConsumerOf (s : ClusterState) (m : ℕ) (c : ConsumerState) : Type 0 where
  pub valid : IsValidConsumer c
  pub partitions : c.partitions ≡ s.group.partitions
  pub number : (n : ℕ) → c.member ≡ Some n → n ≡ m
  pub committed : (p : ℕ) → base_of c p ≤ committed_at s.store p
  pub within : IsWithinLogs c s.logs

-- The consumer of a present member: it is in the group, and holds only what the member is granted.
-- Its generation is at most the group's. It is the group's exactly if the member is synced, and
-- then the consumer's lease is what the member is assigned, all of which it holds
pub record IsInStep (g : GroupState) (m : ℕ) (c : ConsumerState) : Type 0 where
  pub member : c.member ≡ Some m
  pub granted : (p : ℕ) → is_held c p ≡ true → is_in (granted_of g m) p ≡ true
  pub not_ahead : c.generation ≤ g.generation
  pub synced : (c.generation ≡ g.generation) ↔ (is_synced g m ≡ true)
  pub assigned : is_synced g m ≡ true → c.assigned ≡ assigned_of g m
  pub held : is_synced g m ≡ true → (p : ℕ) → is_in (assigned_of g m) p ≡ true → is_held c p ≡ true

-- a commit in the mail: it has records, and they are those of its log from its offset on
pub record IsSent (l : PartitionLogs) (c : CommitTerms) : Type 0 where
  pub some : 0 < length c.ids
  pub within : c.from + length c.ids ≤ length (log_at l c.partition)
  pub same : slice_range (log_at l c.partition) c.from (c.from + length c.ids) ≡ c.ids

-- the invariant
pub record IsValidWorld (w : WorldState) : Type 0 where
  pub cluster : IsValidCluster w.cluster
  pub a_consumer_each : length w.consumers ≡ length w.cluster.group.slots
  pub consumers : (m : ℕ) (c : ConsumerState) → consumer_of w m ≡ Some c
      → IsConsumerOf w.cluster m c
  pub present : (m : ℕ) (c : ConsumerState) → is_present w.cluster.group m ≡ true
      → consumer_of w m ≡ Some c → IsInStep w.cluster.group m c
  pub mail : (i : ℕ) (c : CommitTerms) → slice_get w.mail i ≡ Some c → IsSent w.cluster.logs c
  pub few_commits : length w.mail ≤ MOST_COMMITS

-- a valid world whose logs have these records, and are committed to their ends
pub record IsFullyCommitted (appended : List Keyed) (w : WorldState) : Type 0 where
  pub valid : IsValidWorld w
  pub logs : AreLogsOf appended w.cluster.logs
  pub ends : AreEndsCommitted w.cluster.store w.cluster.logs
