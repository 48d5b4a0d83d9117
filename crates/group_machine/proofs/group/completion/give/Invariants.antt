use Rattle.std.proofs.Common.{◌≡◌, length}
use Rattle.std.specs.Option.{option_map}
use Rattle.group_machine.specs.Completion.{completed_seat}
use Rattle.group_machine.proofs.WalkLemmas.{AreGiven}
use Rattle.group_machine.proofs.group.completion.give.Given as goal

abbrev pub invariant-loop-index : goal.invariant-loop-index
invariant-loop-index l = record {
  long : length l.slots ≡ length l.fn.slots;
  given : AreGiven (λ m. option_map (completed_seat l.next m)) l.fn.slots l.slots l.index;
}
