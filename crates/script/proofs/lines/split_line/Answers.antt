use Rattle.std.proofs.Common.{sym}
use Rattle.script.proofs.Parts.{lines-found, lines-none, starts-found, starts-none}
use Rattle.script.proofs.lines.split_line.Goals as goal

pub returns-in-Some-clause-lines : goal.returns-in-Some-clause-lines
returns-in-Some-clause-lines c = lines-found c.args.bytes.now c.in-Some.end (sym c.in-Some.ensures)

pub returns-in-None-clause-lines : goal.returns-in-None-clause-lines
returns-in-None-clause-lines c = lines-none c.args.bytes.now c.requires (sym c.in-None.ensures)

pub returns-in-Some-clause-starts : goal.returns-in-Some-clause-starts
returns-in-Some-clause-starts c first = starts-found c.args.bytes.now c.in-Some.end first (sym c.in-Some.ensures)

pub returns-in-None-clause-starts : goal.returns-in-None-clause-starts
returns-in-None-clause-starts c first = starts-none c.args.bytes.now first c.requires (sym c.in-None.ensures)
