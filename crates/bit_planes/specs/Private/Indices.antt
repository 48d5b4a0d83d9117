-- The indices of rows.
use Rattle.std.specs.Prelude.{◌≡◌, ℕ, ◌<◌, ◌≤◌, List, length, map, slice_index_or}
use Rattle.bit_planes.specs.PartitionSet.{PartitionSet}

-- the member at an index
abbrev pub member_at : List (ℕ × PartitionSet) → ℕ → ℕ
member_at rows i = slice_index_or (map (λ row. row.0) rows) i 0

-- a member's row is at this index
pub record IsIndexOf (rows : List (ℕ × PartitionSet)) (m i : ℕ) : Type 0 where
  pub within : i < length rows
  pub there : member_at rows i ≡ m

-- a member has no row, and this is the index at which to insert one
pub record IsGapFor (rows : List (ℕ × PartitionSet)) (m i : ℕ) : Type 0 where
  pub within : i ≤ length rows
  pub before : (j : ℕ) → j < i → member_at rows j < m
  pub after : (j : ℕ) → i ≤ j → j < length rows → m < member_at rows j
