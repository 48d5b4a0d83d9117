-- A settled group.
use Rattle.std.specs.Prelude.{Bool, true, false, ◌&&◌}
use Rattle.std.specs.List.{list_all}
use Rattle.bit_planes.specs.PartitionSet.{is_same}
use Rattle.group_machine.specs.declared.group.Seat.{Seat}
use Rattle.group_machine.specs.declared.group.Phase.{Phase}
use Rattle.group_machine.specs.declared.group.Phase.TheVariants.{Empty, Preparing, Stable}
use Rattle.group_machine.specs.Slots.{present}
use Rattle.group_machine.specs.State.{GroupState}

abbrev pub is_stable : Phase → Bool
is_stable Empty = false
is_stable Preparing = false
is_stable Stable = true

-- a member has nothing to revoke
abbrev pub agrees : Seat → Bool
agrees seat = is_same seat.granted seat.assigned

abbrev pub all_agree : GroupState → Bool
all_agree g = list_all (λ m. agrees m.1) (present g.slots)

-- stable, and no member has anything to revoke
abbrev pub is_settled : GroupState → Bool
is_settled g = is_stable g.phase && all_agree g
