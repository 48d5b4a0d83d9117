use Rattle.std.proofs.Common.{arith}
use Rattle.std.proofs.lemmas.Grind.{elements}
use Rattle.group_machine.proofs.group.members.name_of.Goals as goal

pub returns : goal.returns
returns c = grind (arith, elements)
