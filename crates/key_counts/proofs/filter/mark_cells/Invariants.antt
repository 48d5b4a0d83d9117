use Rattle.std.proofs.Common.{◌++◌, ℕ, List, take}
use Rattle.key_counts.specs.Private.Filter.{AreMarked, cells_in}
use Rattle.key_counts.proofs.filter.mark_cells.Given as goal

abbrev pub invariant-loop-i : goal.invariant-loop-i
invariant-loop-i l = (cells : List ℕ) → AreMarked cells l.fn.bytes → AreMarked (cells ++ cells_in (take l.i l.list)) l.bytes
