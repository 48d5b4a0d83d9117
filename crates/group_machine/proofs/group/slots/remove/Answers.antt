use Rattle.std.specs.Prelude.{None}
use Rattle.group_machine.proofs.SlotsLemmas.{seat_put, number_given}
use Rattle.group_machine.proofs.group.slots.remove.Goals as goal

pub returns : goal.returns
returns c =
    let given = number_given c.args.slots.now c.args.member c.requires in
    seat_put c.args.slots.now c.args.member c.index-slots-member.result (λ before. None) given.0 given.1
