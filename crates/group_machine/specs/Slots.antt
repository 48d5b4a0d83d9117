-- Members by number. Slot k is member k + 1: its name and, while it is present, its seat.
use Rattle.std.specs.Prelude.{ℕ, zero, suc, Bool, ◌&&◌, List, [], ◌∷◌, Option, Some, None, ◌==◌, is_some, map, find, slice_get, if◌then◌else◌}
use Rattle.std.specs.List.{list_any, list_all}
use Rattle.std.specs.Option.{option_map, option_and_then}
use Rattle.bit_planes.specs.PartitionSet.{is_in}
use Rattle.bit_planes.specs.SetRows.{SetRows}
use Rattle.group_machine.specs.declared.group.Slot.{Slot}
use Rattle.group_machine.specs.declared.group.Seat.{Seat}

abbrev pub seat_in : Option Slot → Option Seat
seat_in slot = option_and_then (λ s. s.seat) slot

-- the seat of a member, while it is present
abbrev pub seat_of : List Slot → ℕ → Option Seat
seat_of slots zero = None
seat_of slots (suc k) = seat_in (slice_get slots k)

abbrev pub and_member : ℕ → Option Seat → List (ℕ × Seat) → List (ℕ × Seat)
and_member m None members = members
and_member m (Some seat) members = (m, seat) ∷ members

-- the present members of these slots, of which the first is member m
abbrev pub present_from : ℕ → List Slot → List (ℕ × Seat)
present_from m [] = []
present_from m (s ∷ slots) = and_member m s.seat (present_from (suc m) slots)

-- the present members with their seats, in rising order
abbrev pub present : List Slot → List (ℕ × Seat)
present slots = present_from 1 slots

-- the present members, in rising order
abbrev pub members_in : List Slot → List ℕ
members_in slots = map (λ m. m.0) (present slots)

-- what each present member is granted
abbrev pub granted_in : ℕ → List Slot → SetRows
granted_in partitions slots = record {
  partitions = partitions;
  rows = map (λ m. (m.0, m.1.granted)) (present slots);
}

-- the present member that a partition is granted to
abbrev pub owner_in : List Slot → ℕ → Option ℕ
owner_in slots q = option_map (λ m. m.0) (find (λ m. is_in m.1.granted q) (present slots))

-- at least one member is present
abbrev pub is_anybody_in : List Slot → Bool
is_anybody_in slots = list_any (λ s. is_some s.seat) slots

abbrev pub all_joined_in : List Slot → Bool
all_joined_in slots = list_all (λ m. m.1.joined) (present slots)

-- at least one member is present, and all have joined
abbrev pub is_ready_in : List Slot → Bool
is_ready_in slots = is_anybody_in slots && all_joined_in slots

-- the slots, of which the first is member m, with the seats that f returns
abbrev pub reseated_from : ℕ → (ℕ → Option Seat → Option Seat) → List Slot → List Slot
reseated_from m f [] = []
reseated_from m f (s ∷ slots) =
    record { name = s.name; seat = f m s.seat } ∷ reseated_from (suc m) f slots

abbrev pub only_of : ℕ → (Option Seat → Option Seat) → ℕ → Option Seat → Option Seat
only_of member f m seat = if m == member then f seat else seat

-- the slots with the seat of each present member changed
abbrev pub each_changed : (ℕ → Seat → Seat) → List Slot → List Slot
each_changed f slots = reseated_from 1 (λ m. option_map (f m)) slots

-- the slots with the seat of one member changed, if it is present
abbrev pub one_changed : (Seat → Seat) → List Slot → ℕ → List Slot
one_changed f slots member = reseated_from 1 (only_of member (option_map f)) slots

-- the slots with this seat, or none, for one member
abbrev pub with_seat : List Slot → ℕ → Option Seat → List Slot
with_seat slots member seat = reseated_from 1 (only_of member (λ before. seat)) slots

-- the slots with the seat of one member removed
abbrev pub without_seat : List Slot → ℕ → List Slot
without_seat slots member = with_seat slots member None
