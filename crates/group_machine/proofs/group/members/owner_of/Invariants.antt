use Rattle.std.proofs.Common.{◌≡◌, ◌+◌, drop, find}
use Rattle.bit_planes.specs.PartitionSet.{is_in}
use Rattle.group_machine.specs.Slots.{present, present_from}
use Rattle.group_machine.proofs.group.members.owner_of.Given as goal

abbrev pub invariant-loop-index : goal.invariant-loop-index
invariant-loop-index l = find (λ m. is_in m.1.granted l.q) (present l.slots) ≡ find (λ m. is_in m.1.granted l.q) (present_from (l.index + 1) (drop l.index l.slots))
