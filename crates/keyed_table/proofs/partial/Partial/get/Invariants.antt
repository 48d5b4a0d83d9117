use Rattle.std.specs.Prelude.{◌≡◌, take}
use Rattle.keyed_table.specs.Counts.{plain}
use Rattle.keyed_table.proofs.partial.Partial.get.Given as goal

abbrev pub invariant-loop-at : goal.invariant-loop-at
invariant-loop-at l = l.count ≡ plain (take l.at l.ids) l.id
