use Rattle.std.proofs.Common.{rules}
use Rattle.world.proofs.parts.enter.Goals as goal

pub returns : goal.returns
returns c = search rules
