use Rattle.std.proofs.Common.{arith}
use Rattle.script.specs.Replay.{lines_seen, read_answer_in}
use Rattle.ingest.proofs.ReadFaults.{answer_kind, answer_reads, answer_refused}
use Rattle.replay_report.proofs.LineFaults.{lines_err, lines_reads, lines_have_line_faults}
use Rattle.replay_report.proofs.replay.script_lines.Goals as goal

pub returns-clause-fault : goal.returns-clause-fault
returns-clause-fault g c =
    lines_err _ c.read_lines.result (answer_refused (read_answer_in c.args.topics.now) (lines_have_line_faults c.args.topics.now) (g.S.Source.left c.args.script.now) c.in_ok-bytes.bytes.items c.as_slice.result.now (lines_seen c.read_lines.result) c.as_slice.ensures.value c.in_ok-bytes.ensures.value c.read_lines.ensures)

pub returns-clause-kind : goal.returns-clause-kind
returns-clause-kind g c = lines_err _ c.read_lines.result (answer_kind (read_answer_in c.args.topics.now) (lines_have_line_faults c.args.topics.now) c.as_slice.result.now (lines_seen c.read_lines.result) c.read_lines.ensures)

pub returns-clause-reads : goal.returns-clause-reads
returns-clause-reads g c =
    let none = answer_reads (read_answer_in c.args.topics.now) (lines_have_line_faults c.args.topics.now) c.as_slice.result.now (lines_seen c.read_lines.result) c.read_lines.ensures in
    omega (arith, c.in_ok-bytes.ensures.no_failures, none, lines_reads c.read_lines.result)
