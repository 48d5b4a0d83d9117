use Rattle.std.proofs.Common.{◌≡◌, ◌≤◌, ◌-◌, length, drop, map}
use Rattle.std.specs.Simd.Lanes.{zip2}
use Rattle.murmur_lanes.specs.Murmur.{hash_rest, hash_of}
use Rattle.murmur_lanes.proofs.hash_x8.Given as goal

abbrev pub invariant-loop-at : goal.invariant-loop-at
invariant-loop-at l = record { lanes : length l.hash ≡ 8; within : l.at ≤ l.len; so_far : zip2 (λ h key. hash_rest h (drop l.at key.now)) l.hash l.keys ≡ map (λ key. hash_of key.now) l.keys }

abbrev pub decreases-loop-at : goal.decreases-loop-at
decreases-loop-at l = l.len - l.at
