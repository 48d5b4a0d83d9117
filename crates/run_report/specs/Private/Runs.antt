-- A run before its text is written.
use Rattle.std.specs.Prelude.{◌≡◌, ℕ, List, Result, IsOk}
use Rattle.lane_words.specs.declared.Refusal.{Refusal}
use Rattle.lane_words.specs.declared.Refusal.TheVariants as r
use Rattle.partition_log.specs.Keys.{Keyed}
use Rattle.partition_log.specs.Logs.{AreLogsOf}
use Rattle.group_machine.specs.Cluster.{ClusterState, IsValidCluster}
use Rattle.script.specs.declared.plan.Change.{Change}
use Rattle.workers.specs.Runs.{IsRunOf}
use Rattle.ingest.specs.Reports.{IsFaultOf}

-- this is the cluster after a run of a plan over the logs of these records, among topics with these
-- numbers of partitions
pub record IsRunOver
    (counts : List ℕ) (records : List Keyed) (plan : List Change) (s : ClusterState) : Type 0 where
  pub valid : IsValidCluster s
  pub counts_are : s.logs.counts ≡ counts
  pub logs : AreLogsOf records s.logs
  pub run : IsRunOf s.logs plan s

-- why a run ends with nothing to write: it was stopped or differed, though its report is a text, or
-- for a fault that ends a read
abbrev pub EndsRun : Result (List ℕ) Refusal → Refusal → Type 0
EndsRun report r.GateLimit = IsOk report
EndsRun report r.Differs = IsOk report
EndsRun report fault = IsFaultOf report fault
