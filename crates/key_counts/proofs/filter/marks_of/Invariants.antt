use Rattle.std.proofs.Common.{take}
use Rattle.key_counts.specs.Private.Filter.{AreMarked, cells_of}
use Rattle.key_counts.proofs.filter.marks_of.Given as goal

abbrev pub invariant-loop-w : goal.invariant-loop-w
invariant-loop-w l = AreMarked (cells_of (take l.w l.workers) l.part) l.bytes.items
