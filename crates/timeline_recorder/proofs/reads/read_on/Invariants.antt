use Rattle.std.proofs.Common.{◌≡◌}
use Rattle.timeline_recorder.specs.Reads.{read_on}
use Rattle.timeline_recorder.proofs.reads.read_on.Given as goal

abbrev pub invariant-loop-i : goal.invariant-loop-i
invariant-loop-i l = l.times ≡ read_on l.i l.from l.initial.times
