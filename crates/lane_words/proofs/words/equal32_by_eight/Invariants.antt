use Rattle.std.proofs.Common.{length, ◌≡◌, ◌≤◌, ◌-◌, bit_xor}
use Rattle.lane_words.specs.Words.{any_set}
use Rattle.lane_words.proofs.Kernels.{set_below}
use Rattle.lane_words.proofs.words.equal32_by_eight.Given as goal

abbrev pub invariant-loop-at : goal.invariant-loop-at
invariant-loop-at l = record { within : l.at ≤ length l.a; lanes : length l.found ≡ 8; so_far : any_set l.found ≡ set_below bit_xor l.at l.a l.b }

abbrev pub decreases-loop-at : goal.decreases-loop-at
decreases-loop-at l = length l.a - l.at
