use Rattle.std.proofs.Common.{◌≡◌, ◌<◌, ℕ, get_or, length}
use Rattle.key_index.specs.Private.KeyHash.{seed_of}
use Rattle.key_index.specs.declared.key_hash.TheConstants.{SEEDS}
use Rattle.key_index.proofs.key_hash.KeyHash.of.Given as goal

abbrev pub invariant-loop-i : goal.invariant-loop-i
invariant-loop-i l = (length l.seeds ≡ SEEDS) × ((k : ℕ) → k < l.i → get_or l.seeds k 0 ≡ seed_of l.hasher k)
