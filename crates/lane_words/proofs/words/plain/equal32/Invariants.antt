use Rattle.std.proofs.Common.{◌≡◌, bit_xor}
use Rattle.lane_words.proofs.Kernels.{set_below, is_set}
use Rattle.lane_words.proofs.words.plain.equal32.Given as goal

abbrev pub invariant-loop-i : goal.invariant-loop-i
invariant-loop-i l = is_set l.found ≡ set_below bit_xor l.i l.a l.b
