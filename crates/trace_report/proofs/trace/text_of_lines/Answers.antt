use Rattle.std.proofs.Common.{◌++◌, inl}
use Rattle.trace_report.proofs.RowCells.{text_told}
use Rattle.trace_report.specs.TraceRows.{header_row, rows_of_steps}
use Rattle.trace_report.proofs.trace.text_of_lines.Goals as goal

pub returns-clause-answer : goal.returns-clause-answer
returns-clause-answer c =
    let topics = c.args.topics.now in
    let begun = c.in_ok-begun.begun.topics.now in
    let shown = c.in_ok-written.ensures.steps in
    let text = header_row topics ++ rows_of_steps begun shown.steps in
    inl (text_told topics begun c.args.batch c.args.world.now c.args.lines.now shown.steps c.in_ok-text_of.field-0.items shown.steps_are c.in_ok-begun.ensures.topics
    (c.in_ok-text_of.ensures text (shown.shown.rows (header_row topics) c.in_ok-begun.ensures.rows)))
