use Rattle.std.proofs.Common.{◌≡◌, ℕ, ◌<◌, ◌%◌}
use Rattle.std.specs.Prelude.{slice_index}
use Rattle.keycount_c.proofs.seed.SeedRandomSource.fill_bytes.Given as goal

abbrev pub invariant-loop-i : goal.invariant-loop-i
invariant-loop-i l = (k : ℕ) → k < l.i → slice_index l.buf k ≡ slice_index l.self.bytes (k % 32)
