use Rattle.std.proofs.Common.{rules}
use Rattle.group_machine.proofs.group.Group.why_no_rejoin.Goals as goal

pub returns : goal.returns
returns c = search rules

pub returns-then-seat : goal.returns-then-seat
returns-then-seat c = search rules

pub returns-then-same : goal.returns-then-same
returns-then-same c = search rules

pub returns-then-not-is_equal : goal.returns-then-not-is_equal
returns-then-not-is_equal c = search rules

pub returns-then-generation-self : goal.returns-then-generation-self
returns-then-generation-self c = search rules
