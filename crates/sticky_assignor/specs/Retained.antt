-- Retained partitions: those that stay with their owners.
use Rattle.std.specs.Prelude.{◌≡◌, ◌≤◌, ℕ, ◌+◌, ◌&&◌, List, [], ◌∷◌, length}
use Rattle.bit_planes.specs.PartitionSet.{PartitionSet, partitions_of, is_in, how_many}
use Rattle.sticky_assignor.specs.Balanced.{AreBelow, IsBalanced}

-- the number of partitions in both sets
abbrev pub in_both : PartitionSet → PartitionSet → ℕ
in_both s t = how_many (partitions_of s) (λ q. is_in s q && is_in t q)

-- the number of retained partitions, over all members
abbrev pub retained : List PartitionSet → List PartitionSet → ℕ
retained [] rows = 0
retained (own ∷ owned) [] = 0
retained (own ∷ owned) (row ∷ rows) = in_both own row + retained owned rows

-- no balanced rows retain more of what was owned
abbrev pub RetainsMost : ℕ → List PartitionSet → List PartitionSet → Type 0
RetainsMost partitions owned rows = (others : List PartitionSet) → length others ≡ length owned
    → AreBelow partitions others → IsBalanced partitions others
    → retained owned others ≤ retained owned rows
