-- Rounds of a rebalance, by what is granted.
use Rattle.std.specs.Prelude.{◌≡◌, ◌<◌, ℕ, List, IsTrue, length, map}
use Rattle.bit_planes.specs.PartitionSet.{PartitionSet, union, is_within}
use Rattle.bit_planes.specs.SetRows.{SetRows, IsValidRows, members, set_of, sets_of}
pub use Rattle.sticky_assignor.specs.Balanced.{AreDisjoint, IsBalanced}
pub use Rattle.coop_rebalance.specs.Withheld.{target_rows, next_rows}

-- what members are granted: at least one row, and disjoint rows
pub record AreGranted (granted : SetRows) : Type 0 where
  pub valid : IsValidRows granted
  pub some : 0 < length granted.rows
  pub disjoint : AreDisjoint (sets_of granted (members granted))

-- each member's row lies within its row in the other table
abbrev pub RowsWithin : SetRows → SetRows → Type 0
RowsWithin rows others = (m : ℕ) → IsTrue (is_within (set_of rows m) (set_of others m))

-- the next round retains all of these rows, and withholds nothing
pub record Settles (rows : SetRows) : Type 0 where
  pub retained : RowsWithin rows (target_rows rows)
  pub all : next_rows rows ≡ target_rows rows

-- the next rows have the same members and partitions, are disjoint, and lie within the target,
-- which is balanced
pub record LiesInTarget (granted rows : SetRows) : Type 0 where
  pub below : rows.partitions ≡ granted.partitions
  pub same_members : members rows ≡ members granted
  pub valid : IsValidRows rows
  pub disjoint : AreDisjoint (sets_of rows (members rows))
  pub within : RowsWithin rows (target_rows granted)
  pub balanced : IsBalanced granted.partitions (sets_of (target_rows granted) (members granted))

-- the union of what each member is granted and what it is assigned
abbrev pub together : SetRows → SetRows → List PartitionSet
together granted rows = map (λ m. union (set_of granted m) (set_of rows m)) (members granted)
