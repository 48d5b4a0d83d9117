use Rattle.std.proofs.Common.{◌≡◌, take}
use Rattle.group_machine.specs.Slots.{reseated_from, granted_in}
use Rattle.group_machine.specs.Private.Changes.{seat_after}
use Rattle.group_machine.proofs.group.change.granted_rows.Given as goal

abbrev pub invariant-loop-index : goal.invariant-loop-index
invariant-loop-index l = l.rows ≡ granted_in l.partitions (take l.index (reseated_from 1 (seat_after l.change) l.slots))
