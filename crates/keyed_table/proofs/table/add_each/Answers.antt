use Rattle.std.proofs.Common.{arith}
use Rattle.keyed_table.proofs.Counted.{counted-all, counted-more, counted-none, next-fits, next-within}
use Rattle.keyed_table.proofs.table.add_each.Goals as goal

pub loop-at-init : goal.loop-at-init
loop-at-init c = counted-none c.args.cells.now c.args.ids.now

pub bounds-cells-ids : goal.bounds-cells-ids
bounds-cells-ids c = next-within c.args.cells.now c.args.ids.now c.loop-at.cells c.loop-at.at c.requires.numbers c.loop-at.invariant (omega arith)

pub bounds-cells-ids-in-loop-at : goal.bounds-cells-ids-in-loop-at
bounds-cells-ids-in-loop-at c = next-within c.args.cells.now c.args.ids.now c.loop-at.cells c.loop-at.at c.requires.numbers c.loop-at.invariant (omega arith)

pub overflow_add-cells : goal.overflow_add-cells
overflow_add-cells c = omega (arith, next-fits c.args.cells.now c.args.ids.now c.loop-at.cells c.loop-at.at c.requires.sums c.loop-at.invariant (omega arith))

pub loop-at-preserved : goal.loop-at-preserved
loop-at-preserved c = counted-more c.args.cells.now c.args.ids.now c.loop-at.cells c.loop-at.at c.requires.numbers c.loop-at.invariant (omega arith)

pub returns : goal.returns
returns c = counted-all c.args.cells.now c.args.ids.now c.loop-at.cells c.loop-at.at c.loop-at.invariant (omega arith)
