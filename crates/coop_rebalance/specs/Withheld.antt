-- What is withheld for now: by KIP-429 a partition is revoked before it is assigned to another.
use Rattle.std.specs.Prelude.{◌≡◌, ℕ, ◌==◌, Bool, false, ◌&&◌, ◌||◌, not, List, [], ◌∷◌, map}
use Rattle.bit_planes.specs.PartitionSet.{PartitionSet, partitions_of, is_in, set_where}
use Rattle.bit_planes.specs.SetRows.{SetRows, set_of}
pub use Rattle.sticky_assignor.specs.Assigned.{target_rows}

-- whether a partition is in the row of a member other than m
abbrev pub granted_to_other : List (ℕ × PartitionSet) → ℕ → ℕ → Bool
granted_to_other [] m q = false
granted_to_other (row ∷ rows) m q =
    (not (row.0 == m) && is_in row.1 q) || granted_to_other rows m q

-- a member's row without what any other member is granted
abbrev pub withheld_row : List (ℕ × PartitionSet) → (ℕ × PartitionSet) → (ℕ × PartitionSet)
withheld_row granted row =
    let is_given : ℕ → Bool = λ q. is_in row.1 q && not (granted_to_other granted row.0 q) in
    (row.0, set_where (partitions_of row.1) is_given)

-- each member's row of the target without what any other member is granted
unfoldable pub withheld : SetRows → SetRows → SetRows
withheld target granted = record target { rows = map (withheld_row granted.rows) target.rows }

-- each member has its part of the target that no other is granted
abbrev pub AreWithoutOthers : SetRows → SetRows → SetRows → Type 0
AreWithoutOthers rows target granted = (m q : ℕ)
    → is_in (set_of rows m) q
    ≡ (is_in (set_of target m) q && not (granted_to_other granted.rows m q))

-- what a round assigns: the sticky target of what is granted, without what others are granted
abbrev pub next_rows : SetRows → SetRows
next_rows granted = withheld (target_rows granted) granted
