-- The result of a run of a plan.
use Rattle.std.specs.Prelude.{◌≡◌, ◌⊎◌, List}
use Rattle.lane_words.specs.declared.Refusal.{Refusal}
use Rattle.lane_words.specs.declared.Refusal.TheVariants as r
use Rattle.partition_log.specs.Keys.{Key, id_of}
use Rattle.partition_log.specs.Logs.{PartitionLogs, count_in_logs}
use Rattle.commit_store.specs.Commits.{AreEndsCommitted, Commits, count_at}
use Rattle.group_laws.specs.Rounds.{without_flags}
use Rattle.group_machine.specs.Cluster.{ClusterState}
use Rattle.script.specs.declared.plan.Change.{Change}
use Rattle.workers.specs.Plans.{settled}

-- the counter of each key is the number of its records in the logs
abbrev pub AreAllCounted : Commits → PartitionLogs → Type 0
AreAllCounted store logs = (x : Key) → count_at store (id_of logs.keys x) ≡ count_in_logs logs x

-- The cluster at the end of a run, however its threads were scheduled: it has the given logs, each
-- record is committed and counted once, and its group, but for the flags of members, is the result
-- of the plan
pub record IsRunOf (logs : PartitionLogs) (plan : List Change) (s : ClusterState) : Type 0 where
  pub logs_are : s.logs ≡ logs
  pub ends : AreEndsCommitted s.store s.logs
  pub counts : AreAllCounted s.store s.logs
  pub group : without_flags s.group ≡ settled logs.partitions plan

-- why a run fails: memory or a thread could not be had, the gate stopped it, or the logs or the
-- plan differ from the given ones
abbrev pub IsRunRefusal : Refusal → Type 0
IsRunRefusal why = (why ≡ r.Memory) ⊎ (why ≡ r.GateLimit) ⊎ (why ≡ r.Differs)
