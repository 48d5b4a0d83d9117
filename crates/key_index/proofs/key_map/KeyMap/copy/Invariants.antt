use Rattle.std.proofs.Common.{◌≡◌, take}
use Rattle.key_index.specs.Keys.{distinct}
use Rattle.key_index.proofs.key_map.KeyMap.copy.Given as goal

abbrev pub invariant-loop-number : goal.invariant-loop-number
invariant-loop-number l = l.copy ≡ distinct (take l.number l.self)
