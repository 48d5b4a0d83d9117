use Rattle.std.proofs.Common.{rules}
use Rattle.script.specs.Grammar.{append_action}
use Rattle.script.proofs.action.append_action.Goals as goal

pub returns-in-Some-topic : goal.returns-in-Some-topic
unfolding append_action
returns-in-Some-topic c = search rules

pub returns-in-None : goal.returns-in-None
unfolding append_action
returns-in-None c = search rules
