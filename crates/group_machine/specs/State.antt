-- The state of a group, as contracts see it.
use Rattle.std.specs.Prelude.{ℕ, ◌+◌, zero, suc, Bool, false, List, [], ◌∷◌, Option, Some, None, is_some, replicate, slice_index_or, slice_get, ◌&&◌, if◌then◌else◌}
use Rattle.std.specs.List.{position}
use Rattle.std.specs.Option.{option_map, option_map_or, option_or}
use Rattle.std.specs.Str.{bytes_eq}
use Rattle.bit_planes.specs.PartitionSet.{PartitionSet, empty_set}
use Rattle.bit_planes.specs.SetRows.{SetRows}
use Rattle.group_machine.specs.declared.group.Slot.{Slot}
use Rattle.group_machine.specs.declared.group.Seat.{Seat}
use Rattle.group_machine.specs.declared.group.Move.{Move}
use Rattle.group_machine.specs.declared.group.Phase.{Phase}
use Rattle.group_machine.specs.declared.group.Phase.TheVariants.{Empty}
use Rattle.group_machine.specs.Slots.{seat_of, members_in, granted_in, owner_in, is_anybody_in}

-- A group: its generation, its phase, the number of partitions, the members by number, the last
-- holder of each partition, and the moves so far
pub record GroupState : Type 0 where
  pub generation : ℕ
  pub phase : Phase
  pub partitions : ℕ
  pub slots : List Slot
  pub last : List (Option ℕ)
  pub moves : List Move

-- a group that nobody has joined
abbrev pub opening : ℕ → GroupState
opening partitions = record {
  generation = 0;
  phase = Empty;
  partitions = partitions;
  slots = [];
  last = replicate partitions None;
  moves = [];
}

-- a member's seat; nothing if it is not present
abbrev pub member_of : GroupState → ℕ → Option Seat
member_of g member = seat_of g.slots member

abbrev pub is_present : GroupState → ℕ → Bool
is_present g member = is_some (member_of g member)

-- the present members, in rising order
abbrev pub members : GroupState → List ℕ
members g = members_in g.slots

abbrev pub is_anybody : GroupState → Bool
is_anybody g = is_anybody_in g.slots

abbrev pub seat_joined : Option Seat → Bool
seat_joined seat = option_map_or (λ s. s.joined) seat false

abbrev pub seat_synced : Option Seat → Bool
seat_synced seat = option_map_or (λ s. s.synced) seat false

abbrev pub seat_is_static : Option Seat → Bool
seat_is_static seat = option_map_or (λ s. s.is_static) seat false

-- the flags of a member; false if it is not present
abbrev pub is_joined : GroupState → ℕ → Bool
is_joined g member = seat_joined (member_of g member)

abbrev pub is_synced : GroupState → ℕ → Bool
is_synced g member = seat_synced (member_of g member)

-- whether a member is static
abbrev pub is_kept : GroupState → ℕ → Bool
is_kept g member = seat_is_static (member_of g member)

abbrev pub seat_granted : ℕ → Option Seat → PartitionSet
seat_granted partitions seat = option_map_or (λ s. s.granted) seat (empty_set partitions)

abbrev pub seat_assigned : ℕ → Option Seat → PartitionSet
seat_assigned partitions seat = option_map_or (λ s. s.assigned) seat (empty_set partitions)

-- what a member may read and commit; empty if it is not present
abbrev pub granted_of : GroupState → ℕ → PartitionSet
granted_of g member = seat_granted g.partitions (member_of g member)

-- what a member is assigned
abbrev pub assigned_of : GroupState → ℕ → PartitionSet
assigned_of g member = seat_assigned g.partitions (member_of g member)

-- what each present member is granted
abbrev pub granted_rows : GroupState → SetRows
granted_rows g = granted_in g.partitions g.slots

-- the present member that a partition is granted to
abbrev pub owner_of : GroupState → ℕ → Option ℕ
owner_of g q = owner_in g.slots q

-- the last holder of a partition, present or not
abbrev pub last_holder : GroupState → ℕ → Option ℕ
last_holder g q = slice_index_or g.last q None

abbrev pub name_at : List Slot → ℕ → Option (List ℕ)
name_at slots zero = None
name_at slots (suc k) = option_map (λ s. s.name) (slice_get slots k)

-- the name of a member number that was given out, present or not
abbrev pub name_of : GroupState → ℕ → Option (List ℕ)
name_of g member = name_at g.slots member

-- the member number of the last of these slots with a name, of which the first is member m
abbrev pub number_from : ℕ → List Slot → List ℕ → Option ℕ
number_from m [] name = None
number_from m (s ∷ slots) name =
    option_or (number_from (suc m) slots name) (if bytes_eq s.name name then Some m else None)

abbrev pub number_in : List Slot → List ℕ → Option ℕ
number_in slots name = number_from 1 slots name

-- the newest member number with a name, present or not; none if nobody has joined under it
abbrev pub member_named : GroupState → List ℕ → Option ℕ
member_named g name = number_in g.slots name

-- a slot is of a present static member of this name
abbrev pub is_static_as : List ℕ → Slot → Bool
is_static_as name slot = bytes_eq slot.name name && seat_is_static slot.seat

abbrev pub static_in : List Slot → List ℕ → Option ℕ
static_in slots name = option_map (λ k. k + 1) (position (is_static_as name) slots)

-- the present static member of a name
abbrev pub static_member : GroupState → List ℕ → Option ℕ
static_member g name = static_in g.slots name
