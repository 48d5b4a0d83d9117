use Rattle.std.proofs.Common.{rules, ◌≡◌, Err}
use Rattle.script.specs.Plan.{plan_answer}
use Rattle.ingest.specs.Records.{records_of}
use Rattle.ingest.specs.Reports.{report_of_read}
use Rattle.ingest.proofs.Made.{made, script-ends}
use Rattle.run_report.specs.Private.Runs.{EndsRun}
use Rattle.run_report.specs.RunReport.{report_of_plan}
use Rattle.run_report.proofs.Ends.{ends-run}
use Rattle.run_report.proofs.run.devices_report.Goals as goal

pub returns-in_err-plan-clause-report : goal.returns-in_err-plan-clause-report
returns-in_err-plan-clause-report g c =
    let options = c.args.options.now in
    let fault = c.in_err-plan.field-0.0 in
    let read = c.in_ok-records.records.records in
    let left = g.T.Source.left c.args.script.now in
    let same : c.from_residual-in_err-plan.result ≡ Err fault = search rules in
    rw same (made EndsRun (records_of options) (λ records script. report_of_read (report_of_plan options records) (plan_answer script)) (g.S.Source.left c.args.file.now) left read (Err fault) c.in_ok-records.ensures.records
    (script-ends EndsRun plan_answer (report_of_plan options read) left fault (λ report. ends-run report fault c.in_err-plan.ensures.unstopped) c.in_err-plan.ensures.fault))

pub returns-in_err-plan-clause-order : goal.returns-in_err-plan-clause-order
returns-in_err-plan-clause-order g c = search rules

pub returns-in_err-records-clause-order : goal.returns-in_err-records-clause-order
returns-in_err-records-clause-order g c = search rules
