use Rattle.std.proofs.Common.{◌≡◌, ◌∙◌, ◌++◌, [], Ok, Err, inl, arith, rules, refl, sym, ap}
use Rattle.ingest.proofs.ReadFaults.{as_answer}
use Rattle.replay_report.specs.ReplayReport.{rows_of_line, text_of_lines}
use Rattle.replay_steps.specs.Lines.{outcome_of_line}
use Rattle.replay_report.proofs.Lines.{fault_before, lines_end, lines_fault, lines_step, text_step}
use Rattle.replay_report.proofs.replay.lines.text_of_lines.Goals as goal

pub loop-line-init : goal.loop-line-init
loop-line-init g c = record {
  text = ([], c.new_writer-writer.ensures, refl);
  fault = λ e h. h;
}

pub loop-line-preserved : goal.loop-line-preserved
loop-line-preserved g c =
    let batch = c.args.reporting.batch in
    let w = c.loop-line.world in
    let line = c.line-item.result in
    let ok = c.in_ok-write_line.ensures in
    let rows = rows_of_line c.args.reporting.topics.now line.number w (outcome_of_line batch w line) in
    let step = lines_step c.args.reporting.topics.now c.args.reporting.top batch w c.write_line.new.world c.args.lines.now c.loop-line.line-index line (omega arith) c.line-item.is ok.ok ok.world in
    let now = c.loop-line.invariant.text in
    record {
      text = (now.0 ++ rows, ok.rows now.0 now.1, text_step now.0 rows _ _ _ step now.2);
      fault = λ e h. c.loop-line.invariant.fault e (step ∙ fault_before rows _ e h);
    }

pub returns-in_err-write_line-clause-answer : goal.returns-in_err-write_line-clause-answer
returns-in_err-write_line-clause-answer g c =
    let fault = c.in_err-write_line.field-0.0 in
    let whole = text_of_lines c.args.reporting.topics.now c.args.reporting.top c.args.reporting.batch c.args.world.now c.args.lines.now in
    let reported = lines_fault c.args.reporting.topics.now c.args.reporting.top c.args.reporting.batch c.loop-line.world c.args.lines.now c.loop-line.line-index c.line-item.result whole fault (omega arith) c.line-item.is
    c.loop-line.invariant.fault c.in_err-write_line.ensures.fault in
    let same : c.from_residual.result ≡ Err fault = search rules in
    rw same (as_answer whole fault reported)

pub returns-clause-answer : goal.returns-clause-answer
returns-clause-answer g c =
    let how = c.args.reporting in
    let now = c.loop-line.invariant.text in
    let all = c.in_ok-closing_text.field-0.items in
    let whole = lines_end how.topics.now how.top how.batch c.loop-line.world c.cluster-cluster.result.now c.args.lines.now c.loop-line.line-index now.0 [] (text_of_lines how.topics.now how.top how.batch c.args.world.now c.args.lines.now) (λ text. all ≡ text) (omega arith) c.cluster-cluster.ensures.cluster
    now.2 (c.in_ok-closing_text.ensures now.0 now.1) in
    inl (sym (whole.1 ∙ ap Ok (sym whole.2)))
