use Rattle.std.proofs.Common.{◌≡◌, ◌+◌, ◌++◌, take}
use Rattle.std.specs.Vec.{vec_len, vec_capacity}
use Rattle.group_machine.proofs.group.moves.append.Given as goal

abbrev pub invariant-loop-made : goal.invariant-loop-made
invariant-loop-made l = record {
  items : l.moves.items ≡ l.fn.moves.items ++ take l.made-index l.new;
  long : vec_len l.moves ≡ vec_len l.fn.moves + l.made-index;
  capacity : vec_capacity l.moves ≡ vec_capacity l.fn.moves;
}
