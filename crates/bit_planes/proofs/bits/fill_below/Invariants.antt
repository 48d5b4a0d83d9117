use Rattle.std.proofs.Common.{length}
use Rattle.bit_planes.proofs.Walked.{AreFilled}
use Rattle.bit_planes.proofs.bits.fill_below.Given as goal

abbrev pub invariant-loop-i : goal.invariant-loop-i
invariant-loop-i l = AreFilled l.n (length l.fn.words) l.i l.words
