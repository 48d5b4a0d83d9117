use Rattle.std.proofs.Common.{rules}
use Rattle.script.specs.Grammar.{action_of}
use Rattle.script.proofs.action.action_of.Goals as goal

pub returns-in-None : goal.returns-in-None
unfolding action_of
returns-in-None c = search rules
