use Rattle.std.proofs.Common.{◌≡◌, ◌+◌, drop, map}
use Rattle.group_machine.specs.Slots.{present_from}
use Rattle.group_machine.proofs.group.members.MembersIterator.next.Given as goal

abbrev pub invariant-loop-index : goal.invariant-loop-index
invariant-loop-index l = record {
  left : map (λ m. m.0) (present_from (l.index + 1) (drop l.index l.slots)) ≡ l.fn.self;
  same : l.self-inside.slots.now ≡ l.slots;
}
