use Rattle.std.proofs.Common.{◌≡◌, ◌||◌, drop}
use Rattle.group_machine.specs.Slots.{is_anybody_in, reseated_from}
use Rattle.group_machine.specs.Private.Changes.{seat_after}
use Rattle.group_machine.proofs.ChangeLemmas.{starts, each_joined}
use Rattle.group_machine.proofs.group.change.is_ready_after.Given as goal

abbrev pub invariant-loop-index : goal.invariant-loop-index
invariant-loop-index l = record {
  some : (starts l.change || is_anybody_in (reseated_from 1 (seat_after l.change) l.slots)) ≡ (l.anybody || is_anybody_in (drop l.index (reseated_from 1 (seat_after l.change) l.slots)));
  all : each_joined (reseated_from 1 (seat_after l.change) l.slots) ≡ each_joined (drop l.index (reseated_from 1 (seat_after l.change) l.slots));
}
