-- What holds of items, from the index of the first one on.
use Rattle.std.specs.Prelude.{◌≡◌, ◌+◌, ◌<◌, ℕ, List, length, slice_index_or}

-- P holds of each item and its index, where the first one has this index
abbrev pub AllFrom : {X : Type 0} → (ℕ → X → Type 0) → ℕ → List X → Type 0
AllFrom P from xs = (k : ℕ) (d : _) → k < length xs → P (from + k) (slice_index_or xs k d)

-- R holds of each index and its item before and after
pub record ChangesFrom {X : Type 0} (R : ℕ → X → X → Type 0) (from : ℕ) (xs ys : List X) : Type 0 where
  pub len : length ys ≡ length xs
  pub each : (k : ℕ) (d : X) → k < length xs → R (from + k) (slice_index_or xs k d) (slice_index_or ys k d)
