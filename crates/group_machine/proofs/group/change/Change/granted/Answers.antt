use Rattle.std.proofs.Common.{rules, ◌≡◌, Some, refl}
use Rattle.group_machine.specs.Steps.{rejoined_seat}
use Rattle.group_machine.proofs.ChangeLemmas.{rejoined_here}
use Rattle.group_machine.proofs.group.change.Change.granted.Goals as goal

pub returns-in-Rejoins : goal.returns-in-Rejoins
returns-in-Rejoins c =
    let here : c.args.slot.now.seat ≡ Some c.in_ok-seat.seat.now = search rules in
    (rejoined_seat c.in_ok-seat.seat.now, rejoined_here c.args.self c.in-Rejoins.changed c.args.member c.args.slot.now.seat c.in_ok-seat.seat.now c.in-Rejoins.is c.if-changed-member.true here, refl)
