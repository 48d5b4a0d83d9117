use Rattle.std.proofs.Common.{rules}
use Rattle.world.proofs.parts.Parts.step.Goals as goal

pub returns-in-JoinKept : goal.returns-in-JoinKept
returns-in-JoinKept c = search rules
