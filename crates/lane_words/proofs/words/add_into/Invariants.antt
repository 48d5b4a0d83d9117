use Rattle.std.proofs.Common.{length, ◌≡◌, ◌≤◌, ◌+◌, ◌-◌}
use Rattle.lane_words.proofs.Kernels.{done}
use Rattle.lane_words.proofs.words.add_into.Given as goal

abbrev pub invariant-loop-at : goal.invariant-loop-at
invariant-loop-at l = record { within : l.at ≤ length l.a; so_far : l.a ≡ done (λ x y. x + y) l.at l.fn.a l.b }

abbrev pub decreases-loop-at : goal.decreases-loop-at
decreases-loop-at l = length l.a - l.at
