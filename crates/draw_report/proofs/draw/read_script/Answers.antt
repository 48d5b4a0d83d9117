use Rattle.std.proofs.Common.{arith}
use Rattle.script.specs.Replay.{lines_seen, read_answer_in}
use Rattle.ingest.proofs.ReadFaults.{answer_kind, answer_reads, answer_refused}
use Rattle.replay_report.proofs.LineFaults.{lines_err, lines_have_line_faults, lines_reads}
use Rattle.draw_report.proofs.draw.read_script.Goals as goal

pub returns-in-Err-clause-fault : goal.returns-in-Err-clause-fault
returns-in-Err-clause-fault g c =
    rw c.in-Err.is at (lines_err _ c.read_lines.result (answer_refused (read_answer_in c.args.topics.now) (lines_have_line_faults c.args.topics.now) (g.S.Source.left c.args.script.now) c.in_ok-text.text.items c.as_slice.result.now (lines_seen c.read_lines.result) c.as_slice.ensures.value c.in_ok-text.ensures.value c.read_lines.ensures))

pub returns-in-Err-clause-kind : goal.returns-in-Err-clause-kind
returns-in-Err-clause-kind g c =
    rw c.in-Err.is at (lines_err _ c.read_lines.result (answer_kind (read_answer_in c.args.topics.now) (lines_have_line_faults c.args.topics.now) c.as_slice.result.now (lines_seen c.read_lines.result) c.read_lines.ensures))

pub returns-in-Err-clause-reads : goal.returns-in-Err-clause-reads
returns-in-Err-clause-reads g c =
    let none = answer_reads (read_answer_in c.args.topics.now) (lines_have_line_faults c.args.topics.now) c.as_slice.result.now (lines_seen c.read_lines.result) c.read_lines.ensures in
    omega (arith, c.in_ok-text.ensures.no_failures, rw c.in-Err.is at none, lines_reads c.read_lines.result)
