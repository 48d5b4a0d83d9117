use Rattle.std.proofs.Common.{◌≡◌, ◌+◌}
use Rattle.lane_words.proofs.Kernels.{done}
use Rattle.lane_words.proofs.words.plain.add_into.Given as goal

abbrev pub invariant-loop-i : goal.invariant-loop-i
invariant-loop-i l = l.a ≡ done (λ x y. x + y) l.i l.fn.a l.b
