use Rattle.std.proofs.Common.{◌≡◌}
use Rattle.timeline_recorder.specs.Reads.{lengthened}
use Rattle.timeline_recorder.proofs.reads.lengthen.Given as goal

abbrev pub invariant-loop-i : goal.invariant-loop-i
invariant-loop-i l = l.times.items ≡ lengthened l._i l.initial.times.items
