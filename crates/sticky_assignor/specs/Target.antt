-- The sticky target. Members go by their indices, in rising order of their numbers.
use Rattle.std.specs.Prelude.{ℕ, zero, suc, ◌+◌, ◌-◌, ◌/◌, ◌%◌, Bool, ◌&&◌, not, count_by, nat_lt, nat_le, List, [], ◌∷◌, length, take, min, if◌then◌else◌}
pub use Rattle.lane_words.specs.Sums.{sum_below}
use Rattle.bit_planes.specs.PartitionSet.{PartitionSet, is_in, set_where, one, any_below, rank, size, union, lowest}
pub use Rattle.sticky_assignor.specs.Balanced.{row_at}

-- a member is heavy if it owns more than an even share
abbrev pub is_heavy : ℕ → PartitionSet → Bool
is_heavy share row = nat_lt share (size row)

abbrev pub heavies : ℕ → List PartitionSet → ℕ
heavies share rows = count_by (is_heavy share) rows

-- the number of partitions that a member is to own: an even share, plus one for the first heavy
-- members and, as far as the remainder reaches, for the first others
abbrev pub quota_of : ℕ → List PartitionSet → ℕ → ℕ
quota_of partitions owned i =
    let share = partitions / length owned in
    let more = partitions % length owned in
    let for_heavy = min more (heavies share owned) in
    let heavy_before = heavies share (take i owned) in
    share + one (
    if is_heavy share (row_at owned i) then nat_lt heavy_before for_heavy
    else nat_lt (i - heavy_before) (more - for_heavy)
    )

-- what a member retains: the lowest partitions that it owns, up to its quota
abbrev pub retained_row : ℕ → List PartitionSet → ℕ → PartitionSet
retained_row partitions owned i = lowest (quota_of partitions owned i) (row_at owned i)

-- the partitions that nobody retains
abbrev pub free_set : ℕ → List PartitionSet → PartitionSet
free_set partitions owned =
    set_where partitions (λ q.
    not (any_below (length owned) (λ i. is_in (retained_row partitions owned i) q)))

-- what a member lacks of its quota
abbrev pub gap_of : ℕ → List PartitionSet → ℕ → ℕ
gap_of partitions owned i = quota_of partitions owned i - size (retained_row partitions owned i)

-- whether the gap of member i, with the gaps laid end to end, covers r
abbrev pub covers : ℕ → List PartitionSet → ℕ → ℕ → Bool
covers partitions owned i r =
    nat_le (sum_below i (gap_of partitions owned)) r
    && nat_lt r (sum_below (suc i) (gap_of partitions owned))

-- what a member takes: the free partition of rank r goes to the member whose gap covers r
abbrev pub taken_row : ℕ → List PartitionSet → ℕ → PartitionSet
taken_row partitions owned i =
    let free = free_set partitions owned in
    set_where partitions (λ q. is_in free q && covers partitions owned i (rank free q))

-- the rows of n members, each given by its index
abbrev pub rows_by : ℕ → (ℕ → PartitionSet) → List PartitionSet
rows_by zero f = []
rows_by (suc n) f = f 0 ∷ rows_by n (λ i. f (suc i))

-- each member has what it retains and what it takes
unfoldable pub target : ℕ → List PartitionSet → List PartitionSet
target partitions owned =
    rows_by (length owned)
    (λ i. union (retained_row partitions owned i) (taken_row partitions owned i))
