use Rattle.std.proofs.Common.{take}
use Rattle.key_counts.specs.Counts.{Takes}
use Rattle.key_counts.proofs.waiting.count_all.Given as goal

abbrev pub invariant-loop-i : goal.invariant-loop-i
invariant-loop-i l = Takes l.fn.counts l.counts (take l.i l.waiting)
