use Rattle.bit_planes.proofs.Walked.{AreRetained}
use Rattle.bit_planes.proofs.bits.retain_lowest.Given as goal

abbrev pub invariant-loop-i : goal.invariant-loop-i
invariant-loop-i l = AreRetained l.fn.words l.n l.i l.left l.words
