use Rattle.std.proofs.Common.{◌∙◌, ◌++◌, List, ap}
use Rattle.std.proofs.lemmas.Result.{IfOk-weaker}
use Rattle.partitioner.specs.declared.topic.Topic.{Topic}
use Rattle.ingest.specs.Records.{partition_counts, records_in}
use Rattle.group_machine.specs.Cluster.{ClusterState}
use Rattle.report_rows.specs.ReplayRows.{closing_rows, move_rows}
use Rattle.run_report.proofs.Ran.{text_is, text_reported}
use Rattle.run_report.proofs.run.report_of_plan.Goals as goal

pub returns-clause-report : goal.returns-clause-report
returns-clause-report g c =
    let s = c.in_ok-outcome.outcome in
    let run = c.in_ok-outcome.ensures in
    let options = c.args.options.now in
    let records = records_in c.args.records in
    let topics = c.as_slice-topics.ensures.value in
    IfOk-weaker c.text_of_end.result _ _
    (λ text is. text_reported options records c.args.plan.now _ run.ok (is ∙ ap (λ (x : ClusterState). move_rows c.as_slice-topics.result.now x.group x.group.moves ++ closing_rows c.as_slice-topics.result.now options.top x) c.cluster.ensures
    ∙ ap (λ (ts : List Topic). move_rows ts s.group s.group.moves ++ closing_rows ts options.top s) topics ∙ text_is options.topics.items options.top (partition_counts options) records c.args.plan.now s run.value))
    c.text_of_end.ensures.report
