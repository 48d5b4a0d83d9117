use Rattle.std.proofs.Common.{rules}
use Rattle.group_machine.proofs.group.slots.is_static_as.Goals as goal

pub returns-then-eq : goal.returns-then-eq
returns-then-eq c = search rules
