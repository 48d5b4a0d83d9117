use Rattle.std.proofs.Common.{arith}
use Rattle.script.specs.Plan.{plan_answer}
use Rattle.ingest.proofs.ReadFaults.{answer_kind, answer_reads, answer_refused, answer_unstopped}
use Rattle.run_report.proofs.PlanFaults.{plan_has_line_faults}
use Rattle.run_report.proofs.run.script_plan.Goals as goal

pub returns-clause-fault : goal.returns-clause-fault
returns-clause-fault g c =
    answer_refused plan_answer plan_has_line_faults (g.S.Source.left c.args.script.now) c.in_ok-bytes.bytes.items c.as_slice.result.now c.read_plan.result c.as_slice.ensures.value c.in_ok-bytes.ensures.value c.read_plan.ensures

pub returns-clause-kind : goal.returns-clause-kind
returns-clause-kind g c = answer_kind plan_answer plan_has_line_faults c.as_slice.result.now c.read_plan.result c.read_plan.ensures

pub returns-clause-unstopped : goal.returns-clause-unstopped
returns-clause-unstopped g c = answer_unstopped plan_answer plan_has_line_faults c.as_slice.result.now c.read_plan.result c.read_plan.ensures

pub returns-clause-reads : goal.returns-clause-reads
returns-clause-reads g c =
    let none = answer_reads plan_answer plan_has_line_faults c.as_slice.result.now c.read_plan.result c.read_plan.ensures in
    omega (arith, c.in_ok-bytes.ensures.no_failures, none)
