-- The elements of a set at or above a number.
use Rattle.std.specs.Prelude.{◌≡◌, ℕ, ◌<◌, ◌≤◌, true, false}
use Rattle.bit_planes.specs.PartitionSet.{PartitionSet, is_in}

-- q is the lowest element at or above `from`
pub record IsLowestElement (s : PartitionSet) (from q : ℕ) : Type 0 where
  pub member : is_in s q ≡ true
  pub not_below : from ≤ q
  pub none : (n : ℕ) → from ≤ n → n < q → is_in s n ≡ false
