use Rattle.std.proofs.Common.{◌≡◌}
use Rattle.group_machine.specs.State.{number_in}
use Rattle.group_machine.proofs.NameLemmas.{found_by}
use Rattle.group_machine.proofs.group.members.number_named.Given as goal

abbrev pub invariant-loop-index : goal.invariant-loop-index
invariant-loop-index l = number_in l.slots l.name ≡ found_by l.slots l.name l.index l.number
