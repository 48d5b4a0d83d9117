-- Rows of five partitions for three members.
use Rattle.std.specs.Prelude.{ℕ, List, [], ◌∷◌}
use Rattle.bit_planes.specs.PartitionSet.{PartitionSet}
use Rattle.bit_planes.specs.SetRows.{SetRows, no_rows, with_row}

-- the members, by their numbers
abbrev pub three_members : List ℕ
three_members = 1 ∷ 2 ∷ 3 ∷ []

-- their rows
abbrev pub of_three : PartitionSet → PartitionSet → PartitionSet → SetRows
of_three first second third = with_row (with_row (with_row (no_rows 5) 1 first) 2 second) 3 third
