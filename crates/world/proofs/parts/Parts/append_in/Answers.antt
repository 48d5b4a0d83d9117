use Rattle.std.proofs.Common.{rules}
use Rattle.world.proofs.parts.Parts.append_in.Goals as goal

pub returns-in-Ok : goal.returns-in-Ok
returns-in-Ok c = search rules

pub returns-in-Err : goal.returns-in-Err
returns-in-Err c = search rules

pub returns-then-topic-topics : goal.returns-then-topic-topics
returns-then-topic-topics c = search rules
