use Rattle.std.proofs.Common.{rules}
use Rattle.script.proofs.action.Key.bytes.Goals as goal

pub returns : goal.returns
returns c = search rules
