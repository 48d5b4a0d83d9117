-- Comparing rows.
use Rattle.std.specs.Prelude.{◌≡◌, ℕ, Some}
use Rattle.bit_planes.specs.PartitionSet.{PartitionSet}
use Rattle.bit_planes.specs.SetRows.{SetRows, row_of}

-- the first table contains each row of the second
abbrev pub HasRowsOf : SetRows → SetRows → Type 0
HasRowsOf r s = (m : ℕ) (row : PartitionSet) → row_of s m ≡ Some row → row_of r m ≡ Some row
