-- How truth values are seen as a set, and what a test of two memberships comes to, where
-- `allows x y answer` says that the test may answer so.
use Rattle.std.specs.Prelude.{◌≡◌, ℕ, ◌<◌, ◌≤◌, Bool, true, false, MatchBool, List, take, slice_index_or}
use Rattle.lane_words.specs.declared.limits.TheConstants.{MOST_PARTITIONS}
use Rattle.bit_planes.specs.PartitionSet.{PartitionSet, partitions_of, is_in}

-- the flags of the partitions
abbrev pub flags_view : ℕ → List Bool → PartitionSet
flags_view partitions flags = record { flags = take partitions flags }

-- what a plane of truth values keeps
pub record AreValidFlags (partitions : ℕ) (flags : List Bool) : Type 0 where
  pub some : 1 ≤ partitions
  pub few : partitions ≤ MOST_PARTITIONS
  pub clear : (q : ℕ) → partitions ≤ q → q < MOST_PARTITIONS → slice_index_or flags q false ≡ false

-- u has what the test answers of each partition
abbrev pub IsCombined : (Bool → Bool → Bool → Type 0)
    → PartitionSet → PartitionSet → PartitionSet → Type 0
IsCombined allows s t u = (q : ℕ) → q < partitions_of s → allows (is_in s q) (is_in t q) (is_in u q)

-- the answer is whether some partition passes
abbrev pub IsSomePass : (Bool → Bool → Bool → Type 0)
    → PartitionSet → PartitionSet → Bool → Type 0
IsSomePass allows s t answer = MatchBool answer
    ((q : ℕ) × (q < partitions_of s) × allows (is_in s q) (is_in t q) true)
    ((q : ℕ) → q < partitions_of s → allows (is_in s q) (is_in t q) false)
