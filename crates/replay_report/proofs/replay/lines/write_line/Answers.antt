use Rattle.std.proofs.Common.{◌∙◌, length, ap, refl}
use Rattle.group_machine.specs.Cluster.{ClusterState}
use Rattle.replay_report.specs.ReplayReport.{rows_of_answer}
use Rattle.replay_steps.specs.Lines.{outcome_of_line}
use Rattle.report_rows.specs.Rows.{HasText}
use Rattle.replay_report.proofs.Lines.{rows_written}
use Rattle.replay_report.proofs.replay.lines.write_line.Goals as goal

pub returns-clause-rows : goal.returns-clause-rows
returns-clause-rows c text begun =
    let n = c.args.line.now.number in
    let answer = c.in_ok-answer.answer in
    let outcome = outcome_of_line c.args.batch c.args.world.now c.args.line.now in
    let from = ap length (c.moves-from.ensures ∙ ap (λ (s : ClusterState). s.group.moves) c.cluster.ensures.cluster) in
    rows_written c.args.topics.now (HasText c.write_answer.new.writer) text (rows_of_answer n answer) n (length c.moves-from.result.now) c.args.world.now c.perform_line.new.world c.cluster-2.result.now outcome answer
    c.in_ok-answer.ensures.line.answer_is c.in_ok-answer.ensures.line.after_is c.cluster-2.ensures.cluster from refl (c.in_ok-write_answer.ensures _ (c.in_ok-write_moves.ensures text begun))
