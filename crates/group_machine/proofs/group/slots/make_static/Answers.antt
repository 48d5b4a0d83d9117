use Rattle.std.proofs.Common.{◌∙◌, ◌-◌, ap, sym, get_or}
use Rattle.std.proofs.Math.ListN.{set}
use Rattle.std.specs.Option.{option_map}
use Rattle.group_machine.specs.Steps.{static_seat}
use Rattle.group_machine.proofs.SlotsLemmas.{slot_with, seat_put, number_given, present_at}
use Rattle.group_machine.proofs.group.slots.make_static.Goals as goal

pub returns-in-Some : goal.returns-in-Some
returns-in-Some c =
    let given = number_given c.args.slots.now c.args.member c.requires in
    ap (λ o. set c.args.slots.now (c.args.member - 1) (slot_with (get_or c.args.slots.now (c.args.member - 1) c.index-slots-member.result).name (option_map static_seat o))) (sym c.in-Some.is)
    ∙ seat_put c.args.slots.now c.args.member c.index-slots-member.result (option_map static_seat) given.0 given.1

pub returns-in_default : goal.returns-in_default
returns-in_default c = let x = present_at c.args.slots.now c.args.member c.index-slots-member.result c.requires in absurd (c.in_default.not-Some x.0 x.1)
