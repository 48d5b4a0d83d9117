use Rattle.std.proofs.Common.{◌∙◌, sym, suc}
use Rattle.group_machine.proofs.SlotsLemmas.{seat_of_index}
use Rattle.group_machine.proofs.group.slots.all_agree.Goals as goal

pub same-requires : goal.same-requires
same-requires c =
    let at = seat_of_index c.args.slots.now c.loop-slot.slot-index c.slot-item.result c.in-Some.seat c.loop-slot-test.true c.slot-item.is c.in-Some.is in
    let over = c.requires.1 (suc c.loop-slot.slot-index) c.in-Some.seat at in
    over.granted ∙ sym over.assigned
