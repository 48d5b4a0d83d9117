-- Keys with their counts, in parts.
use Rattle.std.specs.Prelude.{◌≡◌, ◌<◌, ◌≤◌, ℕ, List, ◌∷◌, length, slice_index, slice_range}
use Rattle.key_index.specs.Keys.{Key}

-- keys, the count of each, how many of them the parts up to each part's end have, and how many of
-- the parts, the first ones, still have the entries that they are made of
pub record Parted : Type 0 where
  pub keys : List Key
  pub counts : List ℕ
  pub ends : List ℕ
  pub left : ℕ

-- what a list with an element for each key has in one part, which begins where the one before ends
abbrev pub part_at : {X : Type 0} → List ℕ → ℕ → List X → List X
part_at ends i xs = slice_range xs (slice_index (0 ∷ ends) i) (slice_index ends i)

-- the parts, one after another, are all keys
pub record IsDivided (m : Parted) : Type 0 where
  pub len : length m.counts ≡ length m.keys
  pub rise : (i : ℕ) → i < length m.ends
      → slice_index (0 ∷ m.ends) i ≤ slice_index m.ends i
  pub last : slice_index (0 ∷ m.ends) (length m.ends) ≡ length m.keys
