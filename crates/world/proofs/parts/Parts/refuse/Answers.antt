use Rattle.std.proofs.Common.{rules}
use Rattle.world.proofs.parts.Parts.refuse.Goals as goal

pub returns-else-eq : goal.returns-else-eq
returns-else-eq c = search rules
