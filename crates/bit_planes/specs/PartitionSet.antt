-- Sets of partitions, which are numbers below the number of partitions.
use Rattle.std.specs.Prelude.{ℕ, zero, suc, ◌+◌, Bool, true, false, ◌&&◌, ◌||◌, not, ◌==◌, nat_lt, List, length, slice_index_or}
use Rattle.bit_planes.specs.Private.Lists.{flags_where, list_where}

-- The representation: for each number below `partitions_of` whether it is in the set. Only
-- `partitions_of`, `is_in` and `set_where` see it; all other definitions, and all contracts, are
-- in terms of these three
pub record PartitionSet : Type 0 where
  pub flags : List Bool

-- the number of partitions, which all elements are below
unfoldable pub partitions_of : PartitionSet → ℕ
partitions_of s = length s.flags

-- whether a number is in the set
unfoldable pub is_in : PartitionSet → ℕ → Bool
is_in s q = slice_index_or s.flags q false

-- the numbers below `partitions` for which f holds
unfoldable pub set_where : ℕ → (ℕ → Bool) → PartitionSet
set_where partitions f = record { flags = flags_where partitions f }

-- 1 for true, 0 for false
abbrev pub one : Bool → ℕ
one true = 1
one false = 0

-- the number of numbers below n for which f holds
abbrev pub how_many : ℕ → (ℕ → Bool) → ℕ
how_many zero f = 0
how_many (suc n) f = how_many n f + one (f n)

-- whether f holds for a number below n
abbrev pub any_below : ℕ → (ℕ → Bool) → Bool
any_below zero f = false
any_below (suc n) f = any_below n f || f n

-- the number of elements below q
unfoldable pub rank : PartitionSet → ℕ → ℕ
rank s q = how_many q (is_in s)

-- the number of elements
unfoldable pub size : PartitionSet → ℕ
size s = rank s (partitions_of s)

-- the elements, in rising order
unfoldable pub elements : PartitionSet → List ℕ
elements s = list_where (partitions_of s) (is_in s)

-- no number
unfoldable pub empty_set : ℕ → PartitionSet
empty_set partitions = set_where partitions (λ q. false)

-- every number below `partitions`
unfoldable pub full_set : ℕ → PartitionSet
full_set partitions = set_where partitions (λ q. true)

-- the set with one more number
unfoldable pub with_one : PartitionSet → ℕ → PartitionSet
with_one s n = set_where (partitions_of s) (λ q. is_in s q || (q == n))

-- the set without a number
unfoldable pub without_one : PartitionSet → ℕ → PartitionSet
without_one s n = set_where (partitions_of s) (λ q. is_in s q && not (q == n))

-- the elements of either set
unfoldable pub union : PartitionSet → PartitionSet → PartitionSet
union s t = set_where (partitions_of s) (λ q. is_in s q || is_in t q)

-- the elements of the first set that are not in the second
unfoldable pub minus : PartitionSet → PartitionSet → PartitionSet
minus s t = set_where (partitions_of s) (λ q. is_in s q && not (is_in t q))

-- the n lowest elements, or all if there are fewer
unfoldable pub lowest : ℕ → PartitionSet → PartitionSet
lowest n s = set_where (partitions_of s) (λ q. is_in s q && nat_lt (rank s q) n)

-- whether some number is in both
unfoldable pub meets : PartitionSet → PartitionSet → Bool
meets s t = any_below (partitions_of s) (λ q. is_in s q && is_in t q)

-- whether each element of the first set is in the second
unfoldable pub is_within : PartitionSet → PartitionSet → Bool
is_within s t = not (any_below (partitions_of s) (λ q. is_in s q && not (is_in t q)))

-- whether they have the same number of partitions and the same elements
unfoldable pub is_same : PartitionSet → PartitionSet → Bool
is_same s t = (partitions_of s == partitions_of t) && (is_within s t && is_within t s)
