-- How often partitions are granted.
use Rattle.std.specs.Prelude.{ℕ, ◌+◌, ◌≡◌, nat_lt, List, [], ◌∷◌}
use Rattle.bit_planes.specs.PartitionSet.{PartitionSet, partitions_of, is_in, one}
use Rattle.bit_planes.specs.SetRows.{SetRows}

-- how many members are granted a partition
abbrev pub times_granted : List (ℕ × PartitionSet) → ℕ → ℕ
times_granted [] q = 0
times_granted (row ∷ rows) q = one (is_in row.1 q) + times_granted rows q

-- what is granted to at least one member, and what to at least two
pub record AreGrants (some several : PartitionSet) (granted : SetRows) : Type 0 where
  pub some_below : partitions_of some ≡ granted.partitions
  pub several_below : partitions_of several ≡ granted.partitions
  pub to_some : (q : ℕ) → is_in some q ≡ nat_lt 0 (times_granted granted.rows q)
  pub to_several : (q : ℕ) → is_in several q ≡ nat_lt 1 (times_granted granted.rows q)
