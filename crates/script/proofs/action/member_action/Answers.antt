use Rattle.std.proofs.Common.{rules}
use Rattle.script.specs.Grammar.{member_action}
use Rattle.script.proofs.action.member_action.Goals as goal

pub returns-then-eq-2 : goal.returns-then-eq-2
unfolding member_action
returns-then-eq-2 c = search rules

pub returns-then-eq-7 : goal.returns-then-eq-7
unfolding member_action
returns-then-eq-7 c = search rules
