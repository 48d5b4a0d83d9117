use Rattle.std.proofs.Common.{◌≡◌}
use Rattle.lane_words.specs.Words.{and_not}
use Rattle.lane_words.proofs.Kernels.{set_below, is_set}
use Rattle.lane_words.proofs.words.plain.is_within.Given as goal

abbrev pub invariant-loop-i : goal.invariant-loop-i
invariant-loop-i l = is_set l.found ≡ set_below and_not l.i l.a l.b
