use Rattle.std.proofs.Common.{length, ◌≡◌, ◌≤◌, ◌-◌, bit_or}
use Rattle.lane_words.proofs.Kernels.{done}
use Rattle.lane_words.proofs.words.or_into.Given as goal

abbrev pub invariant-loop-at : goal.invariant-loop-at
invariant-loop-at l = record { within : l.at ≤ length l.a; so_far : l.a ≡ done bit_or l.at l.fn.a l.b }

abbrev pub decreases-loop-at : goal.decreases-loop-at
decreases-loop-at l = length l.a - l.at
