use Rattle.std.proofs.Common.{refl}
use Rattle.std.proofs.lemmas.Result.{IfOk-weaker}
use Rattle.csv.specs.Records.{fields_of}
use Rattle.replay_steps.specs.Steps.{taken}
use Rattle.trace_report.proofs.RowCells.{step_added}
use Rattle.trace_report.proofs.rows.TraceRowsStepObserver.show.Goals as goal

pub returns : goal.returns
returns c =
    IfOk-weaker c.write_record.result _ _ (λ _ added. step_added c.args.self.now.topics.now c.args.self.now.topics.now c.args.self.now.writer c.write_record.new.writer (taken c.args.step.now c.args.world.now) (fields_of c.make_row.new.row) refl c.in_ok-make_row.ensures added) c.write_record.ensures
