use Rattle.std.proofs.Common.{◌≡◌, ℕ, ◌+◌, ◌<◌, ◌∷◌}
use Rattle.std.specs.Prelude.{slice_index}
use Rattle.keycount_c.proofs.owners.are_members.Given as goal

abbrev pub invariant-loop-i : goal.invariant-loop-i
invariant-loop-i l = record {
  last : l.last ≡ slice_index (0 ∷ l.numbers) l.i;
  rising : (k : ℕ) → k < l.i → slice_index (0 ∷ l.numbers) k < slice_index (0 ∷ l.numbers) (k + 1);
}
