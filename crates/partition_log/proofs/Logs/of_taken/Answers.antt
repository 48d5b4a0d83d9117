use Rattle.std.proofs.Common.{◌∙◌, [], ap, subst, sym}
use Rattle.partition_log.specs.Appends.{AreAccepted, AreAppended, placed}
use Rattle.partition_log.specs.Logs.{PartitionLogs}
use Rattle.partition_log.specs.Taken.{taken_records}
use Rattle.partition_log.proofs.EntryTables.{are-empty}
use Rattle.partition_log.proofs.ParallelAppends.{with_records-counts}
use Rattle.partition_log.proofs.Logs.of_taken.Goals as goal

pub fill-requires-clause-empty : goal.fill-requires-clause-empty
fill-requires-clause-empty g c κs within = ap (λ (l : PartitionLogs). l.keys) (are-empty c.args.counts.now c.in_ok-logs.logs c.in_ok-logs.ensures.counts c.in_ok-logs.ensures.empty c.in_ok-logs.ensures.valid)

pub fill-requires-clause-accepted : goal.fill-requires-clause-accepted
fill-requires-clause-accepted g c κs within =
    let none = are-empty c.args.counts.now c.in_ok-logs.logs c.in_ok-logs.ensures.counts c.in_ok-logs.ensures.empty c.in_ok-logs.ensures.valid in
    subst (λ (l : PartitionLogs). AreAccepted l (placed l (taken_records c.args.taken.now))) (sym none) c.requires.accepted

pub returns-clause-value : goal.returns-clause-value
returns-clause-value g c =
    let none = are-empty c.args.counts.now c.in_ok-logs.logs c.in_ok-logs.ensures.counts c.in_ok-logs.ensures.empty c.in_ok-logs.ensures.valid in
    subst (λ (l : PartitionLogs). AreAppended l (placed l (taken_records c.args.taken.now)) c.fill.new.self) none c.in_ok-fill.ensures.ok

pub returns-clause-logs : goal.returns-clause-logs
returns-clause-logs g c = c.in_ok-fill.ensures.history [] c.in_ok-logs.ensures.empty

pub returns-clause-counts : goal.returns-clause-counts
returns-clause-counts g c =
    let l = c.in_ok-logs.logs in
    ap (λ (w : PartitionLogs). w.counts) c.in_ok-fill.ensures.ok.1 ∙ with_records-counts l (placed l (taken_records c.args.taken.now)) ∙ c.in_ok-logs.ensures.counts
