use Rattle.std.proofs.Common.{◌≡◌}
use Rattle.lane_words.specs.Words.{and_not}
use Rattle.lane_words.proofs.Kernels.{done}
use Rattle.lane_words.proofs.words.plain.and_not_into.Given as goal

abbrev pub invariant-loop-i : goal.invariant-loop-i
invariant-loop-i l = l.a ≡ done and_not l.i l.fn.a l.b
