use Rattle.std.proofs.Common.{rules}
use Rattle.script.proofs.action.Key.new.Goals as goal

pub returns : goal.returns
returns c = search rules
