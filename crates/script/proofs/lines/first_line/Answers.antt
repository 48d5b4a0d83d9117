use Rattle.script.proofs.Progress.{lines_from-first}
use Rattle.script.proofs.lines.first_line.Goals as goal

pub returns-clause-lines : goal.returns-clause-lines
returns-clause-lines c n =
    lines_from-first n c.args.bytes.now c.split_line.result.0.now
    c.without_carriage_return.result.now c.split_line.result.1.now c.split_line.ensures.lines
    c.without_carriage_return.ensures
