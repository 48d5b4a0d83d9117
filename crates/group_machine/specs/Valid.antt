-- The invariant of a group.
use Rattle.std.specs.Prelude.{ℕ, ◌≡◌, ◌<◌, ◌≤◌, ◌↔◌, true, false, map, length, Some}
use Rattle.lane_words.specs.declared.limits.TheConstants.{MOST_MEMBERS, MOST_PARTITIONS}
use Rattle.bit_planes.specs.PartitionSet.{PartitionSet, partitions_of, is_in, is_within}
use Rattle.sticky_assignor.specs.Balanced.{IsBalanced}
use Rattle.group_machine.specs.declared.group.Seat.{Seat}
use Rattle.group_machine.specs.declared.group.Phase.TheVariants.{Empty, Preparing, Stable}
use Rattle.group_machine.specs.State.{GroupState, member_of, members, is_present, is_joined, granted_of, assigned_of, is_anybody, last_holder}
use Rattle.group_machine.specs.Settled.{is_settled}

-- within the limits of partitions and member numbers, with a last holder or none for each partition
pub record IsSized (g : GroupState) : Type 0 where
  pub some_partitions : 1 ≤ g.partitions
  pub few_partitions : g.partitions ≤ MOST_PARTITIONS
  pub few_members : length g.slots ≤ MOST_MEMBERS
  pub a_holder_each : length g.last ≡ g.partitions

-- no partition is granted to two present members
abbrev pub IsDisjoint : GroupState → Type 0
IsDisjoint g =
    (m n q : ℕ) → is_in (granted_of g m) q ≡ true → is_in (granted_of g n) q ≡ true → m ≡ n

-- a member's sets are over the group's partitions; what it is assigned is granted to it, and is all
-- that is granted to it once it has joined
pub record IsConsistentSeat (partitions : ℕ) (seat : Seat) : Type 0 where
  pub granted_below : partitions_of seat.granted ≡ partitions
  pub assigned_below : partitions_of seat.assigned ≡ partitions
  pub within : is_within seat.assigned seat.granted ≡ true
  pub equal : seat.joined ≡ true → seat.assigned ≡ seat.granted

abbrev pub AreConsistentSeats : GroupState → Type 0
AreConsistentSeats g =
    (m : ℕ) (seat : Seat) → member_of g m ≡ Some seat → IsConsistentSeat g.partitions seat

-- a member that is granted a partition is its last holder
abbrev pub IsHeldByLast : GroupState → Type 0
IsHeldByLast g = (m q : ℕ) → is_in (granted_of g m) q ≡ true → last_holder g q ≡ Some m

-- the granted sets are balanced
abbrev pub IsGrantBalanced : GroupState → Type 0
IsGrantBalanced g = IsBalanced g.partitions (map (λ m. granted_of g m) (members g))

-- the assigned sets lie within balanced rows over the group's partitions
pub record LieInBalanced (g : GroupState) (rows : ℕ → PartitionSet) : Type 0 where
  pub below : (m : ℕ) → partitions_of (rows m) ≡ g.partitions
  pub balanced : IsBalanced g.partitions (map rows (members g))
  pub within : (m : ℕ) → is_within (assigned_of g m) (rows m) ≡ true

-- the invariant, which each step preserves
pub record IsValidGroup (g : GroupState) : Type 0 where
  pub sized : IsSized g
  pub disjoint : IsDisjoint g
  pub consistent : AreConsistentSeats g
  pub held : IsHeldByLast g
  pub balanced : is_settled g ≡ true → IsGrantBalanced g
  pub stable : g.phase ≡ Stable → (m : ℕ) → is_joined g m ≡ false
  pub within_balanced : g.phase ≡ Stable → (rows : ℕ → PartitionSet) × LieInBalanced g rows
  pub preparing : g.phase ≡ Preparing → (m : ℕ) × (is_present g m ≡ true) × (is_joined g m ≡ false)
  pub empty : (g.phase ≡ Empty) ↔ (is_anybody g ≡ false)
  pub counted : is_anybody g ≡ true → 0 < g.generation
