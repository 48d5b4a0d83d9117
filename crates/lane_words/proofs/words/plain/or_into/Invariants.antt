use Rattle.std.proofs.Common.{◌≡◌, bit_or}
use Rattle.lane_words.proofs.Kernels.{done}
use Rattle.lane_words.proofs.words.plain.or_into.Given as goal

abbrev pub invariant-loop-i : goal.invariant-loop-i
invariant-loop-i l = l.a ≡ done bit_or l.i l.fn.a l.b
