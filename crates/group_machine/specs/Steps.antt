-- The steps of a group: each one's answer, with its refusals in order, and the state after it.
use Rattle.std.specs.Prelude.{ℕ, ◌+◌, Bool, true, false, not, ◌&&◌, ◌==◌, List, [], ◌∷◌, ◌++◌, Option, Some, None, Result, Ok, Err, is_some, length, nat_le, if◌then◌else◌}
use Rattle.std.specs.List.{list_any}
use Rattle.std.specs.Option.{option_map, option_map_or}
use Rattle.std.specs.Str.{bytes_eq}
use Rattle.lane_words.specs.declared.limits.TheConstants.{MOST_MEMBERS}
use Rattle.lane_words.specs.declared.Refusal.{Refusal}
use Rattle.lane_words.specs.declared.Refusal.TheVariants as r
use Rattle.bit_planes.specs.PartitionSet.{PartitionSet, empty_set, is_same}
use Rattle.group_machine.specs.declared.group.Seat.{Seat}
use Rattle.group_machine.specs.declared.group.Slot.{Slot}
use Rattle.group_machine.specs.declared.group.Phase.{Phase}
use Rattle.group_machine.specs.declared.group.Phase.TheVariants.{Empty, Preparing}
use Rattle.group_machine.specs.Slots.{is_anybody_in, one_changed, without_seat}
use Rattle.group_machine.specs.State.{GroupState, member_of, granted_of, is_present, static_member}
use Rattle.group_machine.specs.Moves.{held_by}
use Rattle.group_machine.specs.Completion.{is_over, completed}
use Rattle.group_machine.specs.Settled.{is_stable, agrees}

-- the answer of a step, unless its completion would pass the last generation
abbrev pub unless_over : {A : Type 0} → GroupState → A → Result A Refusal
unless_over g answer = if is_over g then Err r.GenerationsOver else Ok answer

-- ---- join
abbrev pub is_name_used : GroupState → List ℕ → Bool
is_name_used g name = list_any (λ s. bytes_eq s.name name) g.slots

-- a member that joins is granted nothing yet
abbrev pub new_seat : ℕ → Seat
new_seat partitions = record {
  joined = true;
  synced = false;
  is_static = false;
  granted = empty_set partitions;
  assigned = empty_set partitions;
}

abbrev pub newcomer : ℕ → List ℕ → Slot
newcomer partitions name = record { name = name; seat = Some (new_seat partitions) }

-- the group with one more member, before a completion
abbrev pub joining : GroupState → List ℕ → GroupState
joining g name = record g {
  slots = g.slots ++ newcomer g.partitions name ∷ [];
  phase = Preparing;
}

-- the member's number, which is the next one
abbrev pub join_answer : GroupState → List ℕ → Result ℕ Refusal
join_answer g name =
    if is_name_used g name then Err r.NameUsed
    else if nat_le MOST_MEMBERS (length g.slots) then Err r.TooManyMembers
    else unless_over (joining g name) (length g.slots + 1)

abbrev pub joined_by : GroupState → List ℕ → GroupState
joined_by g name = completed (joining g name)

-- ---- join of a static member
abbrev pub static_seat : Seat → Seat
static_seat seat = record seat { is_static = true }

-- the group with this member made static
abbrev pub made_static : GroupState → ℕ → GroupState
made_static g member = record g { slots = one_changed static_seat g.slots member }

-- a join, and the member that joined is static
abbrev pub joined_static_by : GroupState → List ℕ → GroupState
joined_static_by g name = made_static (joined_by g name) (length g.slots + 1)

-- ---- rejoin
-- it revokes what it is not assigned
abbrev pub rejoined_seat : Seat → Seat
rejoined_seat seat = record seat { joined = true; granted = seat.assigned }

-- the group with this member rejoined, before a completion
abbrev pub rejoining : GroupState → ℕ → GroupState
rejoining g member = record g {
  slots = one_changed rejoined_seat g.slots member;
  phase = Preparing;
}

-- why a rejoin is refused, apart from the limit of generations
abbrev pub rejoin_refusal : GroupState → ℕ → PartitionSet → Option Seat → Option Refusal
rejoin_refusal g generation claim None = Some r.UnknownMember
rejoin_refusal g generation claim (Some seat) =
    if not (generation == g.generation) then Some r.StaleGeneration
    else if seat.joined then Some r.AlreadyJoined
    else if not seat.synced then Some r.SyncFirst
    else if is_stable g.phase && agrees seat then Some r.NothingToGive
    else if not (is_same claim seat.assigned) then Some r.ClaimDiffers
    else None

abbrev pub rejoin_answer : GroupState → ℕ → ℕ → PartitionSet → Result (Unit {0}) Refusal
rejoin_answer g member generation claim =
    option_map_or Err (rejoin_refusal g generation claim (member_of g member))
    (unless_over (rejoining g member) tt)

abbrev pub rejoined_by : GroupState → ℕ → GroupState
rejoined_by g member = completed (rejoining g member)

-- ---- sync
abbrev pub synced_seat : Seat → Seat
synced_seat seat = record seat { synced = true }

abbrev pub sync_seat_answer : Option Seat → Result (Unit {0}) Refusal
sync_seat_answer None = Err r.UnknownMember
sync_seat_answer (Some seat) = if seat.joined then Err r.RebalanceInProgress else Ok tt

abbrev pub sync_answer : GroupState → ℕ → Result (Unit {0}) Refusal
sync_answer g member = sync_seat_answer (member_of g member)

abbrev pub synced_by : GroupState → ℕ → GroupState
synced_by g member = record g { slots = one_changed synced_seat g.slots member }

-- ---- leave and lose, which are the same
abbrev pub phase_left : List Slot → Phase
phase_left slots = if is_anybody_in slots then Preparing else Empty

-- the group with these slots left, before a completion
abbrev pub left : GroupState → List Slot → GroupState
left g slots = record g { slots = slots; phase = phase_left slots }

abbrev pub leaving : GroupState → ℕ → GroupState
leaving g member = left g (without_seat g.slots member)

abbrev pub leave_answer : GroupState → ℕ → Result (Unit {0}) Refusal
leave_answer g member =
    if is_present g member then unless_over (leaving g member) tt else Err r.UnknownMember

abbrev pub left_by : GroupState → ℕ → GroupState
left_by g member = completed (leaving g member)

-- ---- take over
-- a seat that is handed on: its new member has not synced
abbrev pub handed_seat : Seat → Seat
handed_seat seat = record seat { synced = false }

-- the slot that takes a member's seat over, under the same name
abbrev pub successor : GroupState → List ℕ → ℕ → Slot
successor g name member = record {
  name = name;
  seat = option_map handed_seat (member_of g member);
}

-- the group with a member's seat handed on to the next number, which becomes the last holder of
-- what it is granted. This makes no moves
abbrev pub handing_on : GroupState → List ℕ → ℕ → GroupState
handing_on g name member = record g {
  slots = without_seat g.slots member ++ successor g name member ∷ [];
  last = held_by (length g.slots + 1) (granted_of g member) g.last;
}

-- the number that takes the seat over, which is the next one
abbrev pub take_over_answer : GroupState → List ℕ → Result ℕ Refusal
take_over_answer g name =
    if not (is_some (static_member g name)) then Err r.NotKept
    else if nat_le MOST_MEMBERS (length g.slots) then Err r.TooManyMembers
    else Ok (length g.slots + 1)

abbrev pub taken_over_by : GroupState → List ℕ → GroupState
taken_over_by g name = option_map_or (handing_on g name) (static_member g name) g
