use Rattle.std.proofs.Common.{ℕ, ◌<◌, ◌≤◌}
use Rattle.keycount_c.specs.Places.{end_of_key, start_of_key}
use Rattle.keycount_c.proofs.places.are_keys.Given as goal

abbrev pub invariant-loop-i : goal.invariant-loop-i
invariant-loop-i l = (k : ℕ) → k < l.i → (start_of_key l.ends k ≤ end_of_key l.ends k) × (end_of_key l.ends k ≤ l.len)
