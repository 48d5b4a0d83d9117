-- The target, by member number.
use Rattle.std.specs.Prelude.{ℕ, List, [], ◌∷◌, All, IsSome}
use Rattle.bit_planes.specs.PartitionSet.{PartitionSet}
use Rattle.bit_planes.specs.SetRows.{SetRows, members, row_of, sets_of}
use Rattle.sticky_assignor.specs.Target.{target}

-- each member with its row
abbrev pub pair_up : List ℕ → List PartitionSet → List (ℕ × PartitionSet)
pair_up [] rows = []
pair_up (m ∷ ms) [] = []
pair_up (m ∷ ms) (row ∷ rows) = (m, row) ∷ pair_up ms rows

-- the target of these members, from what they own. Rows of other members are ignored
unfoldable pub assigned : ℕ → List ℕ → SetRows → SetRows
assigned partitions ms owned =
    record { partitions = partitions; rows = pair_up ms (target partitions (sets_of owned ms)) }

-- the target of all members of a table
abbrev pub target_rows : SetRows → SetRows
target_rows r = assigned r.partitions (members r) r

-- each of these members has a row
abbrev pub HaveRows : SetRows → List ℕ → Type 0
HaveRows owned ms = All (λ m. IsSome (row_of owned m)) ms
