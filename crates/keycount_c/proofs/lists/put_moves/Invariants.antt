use Rattle.std.proofs.Common.{drop, map}
use Rattle.keycount_c.specs.Moves.{row_of_move}
use Rattle.keycount_c.proofs.Filling.{IsFilling}
use Rattle.keycount_c.proofs.lists.put_moves.Given as goal

abbrev pub invariant-loop-i : goal.invariant-loop-i
invariant-loop-i l = IsFilling (map row_of_move l.moves) (map row_of_move (drop l.i l.moves)) l.i l.out l.fn.out
