-- The target as the code computes it, member by member.
use Rattle.std.specs.Prelude.{ℕ, zero, suc, ◌+◌, ◌-◌, ◌/◌, ◌%◌, List, [], ◌∷◌, length, map, count_by, nat_lt, min, if◌then◌else◌}
use Rattle.bit_planes.specs.PartitionSet.{PartitionSet, size, full_set, union, minus, lowest}
use Rattle.bit_planes.specs.SetRows.{SetRows, sets_of}
use Rattle.sticky_assignor.specs.Assigned.{pair_up}
use Rattle.sticky_assignor.specs.Target.{is_heavy, heavies}

-- one while some are left, then zero
abbrev pub one_of : ℕ → ℕ
one_of zero = 0
one_of (suc left) = 1

-- an even share for each, plus one for the first heavy members and for the first others
abbrev pub shares : ℕ → ℕ → ℕ → List PartitionSet → List ℕ
shares share for_heavy for_others [] = []
shares share for_heavy for_others (row ∷ rows) =
    if is_heavy share row
    then (share + one_of for_heavy) ∷ shares share (for_heavy - 1) for_others rows
    else ((share + one_of for_others) ∷ shares share for_heavy (for_others - 1) rows)

-- the size of each row
abbrev pub sizes : List PartitionSet → List ℕ
sizes rows = map (λ row. size row) rows

-- by sizes alone: how many are above a share
abbrev pub heavies_by : ℕ → List ℕ → ℕ
heavies_by share ns = count_by (λ n. nat_lt share n) ns

abbrev pub shares_by : ℕ → ℕ → ℕ → List ℕ → List ℕ
shares_by share for_heavy for_others [] = []
shares_by share for_heavy for_others (n ∷ ns) =
    if nat_lt share n
    then (share + one_of for_heavy) ∷ shares_by share (for_heavy - 1) for_others ns
    else ((share + one_of for_others) ∷ shares_by share for_heavy (for_others - 1) ns)

abbrev pub quotas_by : ℕ → List ℕ → List ℕ
quotas_by partitions ns =
    let share = partitions / length ns in
    let more = partitions % length ns in
    let for_heavy = min more (heavies_by share ns) in
    shares_by share for_heavy (more - for_heavy) ns

-- the number of partitions that each member is to own
abbrev pub quotas : ℕ → List PartitionSet → List ℕ
quotas partitions rows =
    let share = partitions / length rows in
    let more = partitions % length rows in
    let for_heavy = min more (heavies share rows) in
    shares share for_heavy (more - for_heavy) rows

-- each member retains the lowest partitions that it owns, up to its quota
abbrev pub retaining : List ℕ → List PartitionSet → List PartitionSet
retaining [] rows = []
retaining (q ∷ qs) [] = []
retaining (q ∷ qs) (row ∷ rows) = lowest q row ∷ retaining qs rows

-- the partitions that are in no row
abbrev pub free_of : ℕ → List PartitionSet → PartitionSet
free_of partitions [] = full_set partitions
free_of partitions (row ∷ rows) = minus (free_of partitions rows) row

-- what each row lacks of its quota
abbrev pub gaps : List ℕ → List PartitionSet → List ℕ
gaps [] retained = []
gaps (q ∷ qs) [] = []
gaps (q ∷ qs) (k ∷ ks) = (q - size k) ∷ gaps qs ks

-- the free partitions, in rising order, fill the gaps one after the other
abbrev pub filled : PartitionSet → List ℕ → List PartitionSet → List PartitionSet
filled free [] retained = []
filled free (g ∷ gs) [] = []
filled free (g ∷ gs) (k ∷ ks) = union k (lowest g free) ∷ filled (minus free (lowest g free)) gs ks

abbrev pub filled_up : ℕ → List ℕ → List PartitionSet → List PartitionSet
filled_up partitions qs retained = filled (free_of partitions retained) (gaps qs retained) retained

-- the free partitions that a row gets, up to its quota
abbrev pub given_of : ℕ → PartitionSet → PartitionSet → PartitionSet
given_of quota row free = lowest (quota - size (lowest quota row)) free

-- each member's row: what it retains, and the free partitions that it gets
abbrev pub filled_rows : PartitionSet → List ℕ → List ℕ → SetRows → SetRows
filled_rows free qs ms owned =
    let retained = retaining qs (sets_of owned ms) in
    record {
      partitions = owned.partitions;
      rows = pair_up ms (filled free (gaps qs retained) retained);
    }

-- quotas, then what is retained, then the free partitions
abbrev pub filling : ℕ → List PartitionSet → List PartitionSet
filling partitions owned =
    let qs = quotas partitions owned in
    filled_up partitions qs (retaining qs owned)
