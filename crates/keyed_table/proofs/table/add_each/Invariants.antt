use Rattle.keyed_table.proofs.Counted.{AreCountedTo}
use Rattle.keyed_table.proofs.table.add_each.Given as goal

abbrev pub invariant-loop-at : goal.invariant-loop-at
invariant-loop-at l = AreCountedTo l.fn.cells l.ids l.cells l.at
