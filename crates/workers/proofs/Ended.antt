-- A run that is finished.
use Rattle.std.proofs.Common.{◌≡◌, Bool, true, false, ◌||◌, List, take, refl, ap, sym, ◌∙◌, arith}
use Rattle.std.proofs.lemmas.List.{length-map, take_all}
use Rattle.partition_log.specs.Keys.{key_at, plain}
use Rattle.partition_log.specs.Logs.{PartitionLogs, keys_of_log, log_at}
use Rattle.partition_log.proofs.Parted.{sum-same}
use Rattle.commit_store.specs.Commits.{AreEndsCommitted, Commits, IsExact, committed_at}
use Rattle.group_machine.specs.State.{GroupState}
use Rattle.group_machine.specs.Settled.{is_settled}
use Rattle.group_machine.specs.Cluster.{IsValidCluster}
use Rattle.script.specs.declared.plan.Change.{Change}
use Rattle.workers.specs.Plans.{settled}
use Rattle.workers.specs.Private.Applied.{IsFinished}
use Rattle.workers.specs.Progress.{IsValidProgress, Progress, is_at_rest, is_empty}
use Rattle.workers.specs.Runs.{AreAllCounted, IsRunOf}
use Rattle.workers.proofs.PlanLemmas.{rest_is_end}

all_counted : (s : Commits) (l : PartitionLogs) → IsExact s l → AreEndsCommitted s l → AreAllCounted s l
all_counted s l exact ends x =
    exact.counted x
    ∙ sum-same l.partitions (λ p. plain (take (committed_at s p) (keys_of_log l p)) x) (λ p. plain (keys_of_log l p) x) (λ p lt. ap (λ ks. plain ks x) (take_all (committed_at s p) (keys_of_log l p) (omega (arith, ends p lt, length-map (log_at l p) (key_at l.keys)))))

settled_is_at_rest : (a b : Bool) → b ≡ true → (a || b) ≡ true
settled_is_at_rest true b e = refl
settled_is_at_rest false b e = e

pub run_of : (s : Progress) (logs : PartitionLogs) (plan : List Change) → IsValidProgress s → IsValidCluster s.cluster → IsFinished s → s.plan ≡ plan → logs ≡ s.cluster.logs → IsRunOf logs plan s.cluster
run_of s logs plan was valid done same_plan same_logs =
    let g : GroupState = s.cluster.group in
    let rest : is_at_rest g ≡ true = settled_is_at_rest (is_empty g.phase) (is_settled g) done.settled in
    record {
      logs_are = sym same_logs;
      ends = done.ends;
      counts = all_counted s.cluster.store s.cluster.logs valid.exact done.ends;
      group = sym (rest_is_end g was.valid rest)
          ∙ was.end
          ∙ ap (λ lines. settled g.partitions lines) (take_all s.applied s.plan (omega (arith, done.all)) ∙ same_plan)
          ∙ ap (λ p. settled p plan) (sym valid.logs_partitions ∙ ap (λ l. l.partitions) (sym same_logs));
    }
