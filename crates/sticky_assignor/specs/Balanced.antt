-- Balanced rows. A row is the set of partitions that one member owns.
use Rattle.std.specs.Prelude.{◌≡◌, ◌+◌, ◌<◌, ◌≤◌, ℕ, List, [], ◌∷◌, length, slice_index_or}
use Rattle.bit_planes.specs.PartitionSet.{PartitionSet, partitions_of, is_in, one, size, empty_set}

-- the number of rows with a partition
abbrev pub holders : List PartitionSet → ℕ → ℕ
holders [] q = 0
holders (row ∷ rows) q = one (is_in row q) + holders rows q

-- the row at an index
abbrev pub row_at : List PartitionSet → ℕ → PartitionSet
row_at rows i = slice_index_or rows i (empty_set 0)

-- the size of the row at an index
abbrev pub size_at : List PartitionSet → ℕ → ℕ
size_at rows i = size (row_at rows i)

-- Balanced as Kafka's StickyAssignor documents it: each partition is in exactly one row, and the
-- sizes of two rows differ by at most one
pub record IsBalanced (partitions : ℕ) (rows : List PartitionSet) : Type 0 where
  pub once : (q : ℕ) → q < partitions → holders rows q ≡ 1
  pub even : (i j : ℕ) → i < length rows → j < length rows → size_at rows i ≤ size_at rows j + 1

-- no partition is in two rows
abbrev pub AreDisjoint : List PartitionSet → Type 0
AreDisjoint rows = (q : ℕ) → holders rows q ≤ 1

-- each row is a set of this many partitions
abbrev pub AreBelow : ℕ → List PartitionSet → Type 0
AreBelow partitions [] = Unit {0}
AreBelow partitions (row ∷ rows) = (partitions_of row ≡ partitions) × AreBelow partitions rows

-- what members own: at least one row, and disjoint rows of this many partitions
pub record AreOwned (partitions : ℕ) (rows : List PartitionSet) : Type 0 where
  pub some : 0 < length rows
  pub below : AreBelow partitions rows
  pub disjoint : AreDisjoint rows
