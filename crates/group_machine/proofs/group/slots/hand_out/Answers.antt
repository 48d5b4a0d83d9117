use Rattle.std.proofs.Common.{◌∙◌, ◌-◌, None, ap, get_or, arith}
use Rattle.std.proofs.lemmas.Grind.{elements}
use Rattle.std.proofs.Math.ListN.{set}
use Rattle.group_machine.proofs.SlotsLemmas.{slot_with, seat_put, number_given, present_at}
use Rattle.group_machine.proofs.group.slots.hand_out.Goals as goal

pub returns-in-Some-clause-slots : goal.returns-in-Some-clause-slots
returns-in-Some-clause-slots c =
    let given = number_given c.args.slots.now c.args.member c.requires in
    ap (λ o. set c.args.slots.now (c.args.member - 1) (slot_with (get_or c.args.slots.now (c.args.member - 1) c.index-slots-member.result).name o)) c.take-taken.ensures.after
    ∙ seat_put c.args.slots.now c.args.member c.index-slots-member.result (λ before. None) given.0 given.1

pub returns-in_default-clause-seat : goal.returns-in_default-clause-seat
returns-in_default-clause-seat c = let x = present_at c.args.slots.now c.args.member c.index-slots-member.result c.requires in absurd (c.in_default.not-Some x.0 (c.take-taken.ensures.value ∙ x.1))

pub returns-in_default-clause-slots : goal.returns-in_default-clause-slots
returns-in_default-clause-slots c = let x = present_at c.args.slots.now c.args.member c.index-slots-member.result c.requires in absurd (c.in_default.not-Some x.0 (c.take-taken.ensures.value ∙ x.1))

pub returns-in-Some-clause-seat : goal.returns-in-Some-clause-seat
returns-in-Some-clause-seat c = grind (arith, elements)
