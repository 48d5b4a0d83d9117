-- Tables of sets of partitions by member number.
use Rattle.std.specs.Prelude.{◌≡◌, ℕ, ◌≤◌, ◌==◌, nat_lt, List, [], ◌∷◌, Option, Some, None, map, if◌then◌else◌}
use Rattle.std.specs.List.Sorted.{IsStrictlyIncreasing}
use Rattle.lane_words.specs.declared.limits.TheConstants.{MOST_PARTITIONS}
use Rattle.bit_planes.specs.PartitionSet.{PartitionSet, partitions_of, empty_set, minus}

-- sets over the same number of partitions, in rising order of their members
pub record SetRows : Type 0 where
  pub partitions : ℕ
  pub rows : List (ℕ × PartitionSet)

-- no members
abbrev pub no_rows : ℕ → SetRows
no_rows partitions = record { partitions = partitions; rows = [] }

-- the members, in rising order
abbrev pub members : SetRows → List ℕ
members r = map (λ row. row.0) r.rows

abbrev pub find_row : List (ℕ × PartitionSet) → ℕ → Option PartitionSet
find_row [] m = None
find_row (row ∷ rows) m = if row.0 == m then Some row.1 else find_row rows m

-- a member's set, if it has one
abbrev pub row_of : SetRows → ℕ → Option PartitionSet
row_of r m = find_row r.rows m

abbrev pub put_row : List (ℕ × PartitionSet) → ℕ → PartitionSet → List (ℕ × PartitionSet)
put_row [] m s = (m, s) ∷ []
put_row (row ∷ rows) m s =
    if row.0 == m then (m, s) ∷ rows
    else if nat_lt m row.0 then (m, s) ∷ row ∷ rows
    else row ∷ put_row rows m s

-- the rows with this set for this member
abbrev pub with_row : SetRows → ℕ → PartitionSet → SetRows
with_row r m s = record r { rows = put_row r.rows m s }

-- this member's row without some partitions; any other row unchanged
abbrev pub less_row : ℕ → PartitionSet → (ℕ × PartitionSet) → (ℕ × PartitionSet)
less_row m s row = if row.0 == m then (row.0, minus row.1 s) else row

-- the rows with some partitions removed from this member's set
abbrev pub with_less : SetRows → ℕ → PartitionSet → SetRows
with_less r m s = record r { rows = map (less_row m s) r.rows }

abbrev pub set_or_empty : ℕ → Option PartitionSet → PartitionSet
set_or_empty partitions None = empty_set partitions
set_or_empty partitions (Some s) = s

-- a member's set; the empty set if it has no row
abbrev pub set_of : SetRows → ℕ → PartitionSet
set_of r m = set_or_empty r.partitions (row_of r m)

-- the sets of some members, in their order
abbrev pub sets_of : SetRows → List ℕ → List PartitionSet
sets_of r ms = map (set_of r) ms

-- each member has the same row in both, or in neither
abbrev pub HaveSameRows : SetRows → SetRows → Type 0
HaveSameRows r s = (m : ℕ) → row_of r m ≡ row_of s m

-- each set is over this many partitions
abbrev pub AreOver : ℕ → List (ℕ × PartitionSet) → Type 0
AreOver partitions [] = Unit {0}
AreOver partitions (row ∷ rows) = (partitions_of row.1 ≡ partitions) × AreOver partitions rows

-- the invariant of rows
pub record IsValidRows (r : SetRows) : Type 0 where
  pub some : 1 ≤ r.partitions
  pub few : r.partitions ≤ MOST_PARTITIONS
  pub rising : IsStrictlyIncreasing (members r)
  pub over : AreOver r.partitions r.rows
