use Rattle.std.proofs.Common.{true, ◌≡◌, drop}
use Rattle.std.specs.List.{list_all}
use Rattle.std.specs.Option.{option_map_or}
use Rattle.group_machine.specs.Settled.{agrees}
use Rattle.group_machine.proofs.group.slots.all_agree.Given as goal

abbrev pub invariant-loop-slot : goal.invariant-loop-slot
invariant-loop-slot l = list_all (λ s. option_map_or agrees s.seat true) l.slots ≡ list_all (λ s. option_map_or agrees s.seat true) (drop l.slot-index l.slots)
