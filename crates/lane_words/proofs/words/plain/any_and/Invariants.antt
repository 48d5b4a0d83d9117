use Rattle.std.proofs.Common.{◌≡◌, bit_and}
use Rattle.lane_words.proofs.Kernels.{set_below, is_set}
use Rattle.lane_words.proofs.words.plain.any_and.Given as goal

abbrev pub invariant-loop-i : goal.invariant-loop-i
invariant-loop-i l = is_set l.found ≡ set_below bit_and l.i l.a l.b
