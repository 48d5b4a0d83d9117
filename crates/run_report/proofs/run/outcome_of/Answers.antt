use Rattle.std.proofs.Common.{rules}
use Rattle.std.proofs.lemmas.Result.{IfErr-weaker}
use Rattle.ingest.specs.Records.{records_in}
use Rattle.run_report.proofs.Ran.{key_ends_run, refusal_ends_run}
use Rattle.run_report.proofs.run.outcome_of.Goals as goal

pub returns-in_err-logs-clause-fault : goal.returns-in_err-logs-clause-fault
returns-in_err-logs-clause-fault g c =
    let fault = c.in_err-logs.field-0.0 in
    let ends = key_ends_run c.args.options.now (records_in c.args.records) c.args.plan.now fault c.in_err-logs.ensures.answer.0 c.in_err-logs.ensures.answer.1 in
    search rules

pub returns-clause-fault : goal.returns-clause-fault
returns-clause-fault g c =
    IfErr-weaker c.run_cluster.result _ _ (λ e h. refusal_ends_run c.args.options.now (records_in c.args.records) c.args.plan.now e c.in_ok-logs.ensures.answer h) c.run_cluster.ensures.fault
