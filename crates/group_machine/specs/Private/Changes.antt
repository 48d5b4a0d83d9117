-- The change of a step, and what its completion needs.
use Rattle.std.specs.Prelude.{◌≡◌, ℕ, ◌<◌, true, false, List, [], ◌∷◌, ◌++◌, ◌⊎◌, Option, Some, None, Ok, ◌+◌, ◌≤◌, length}
use Rattle.std.specs.Option.{option_map}
use Rattle.lane_words.specs.declared.limits.TheConstants.{LAST_GENERATION}
use Rattle.lane_words.specs.declared.Refusal.{Refusal}
use Rattle.lane_words.specs.declared.Refusal.TheVariants as r
use Rattle.bit_planes.specs.PartitionSet.{PartitionSet}
use Rattle.group_machine.specs.declared.group.Slot.{Slot}
use Rattle.group_machine.specs.declared.group.Seat.{Seat}
use Rattle.group_machine.specs.declared.group.Phase.{Phase}
use Rattle.group_machine.specs.declared.group.Phase.TheVariants.{Empty, Preparing}
use Rattle.group_machine.specs.declared.group.change.Change.{Change}
use Rattle.group_machine.specs.declared.group.change.Change.TheVariants.{Joins, Rejoins, Leaves}
use Rattle.group_machine.specs.declared.group.completion.Completion.{Completion}
use Rattle.group_machine.specs.Slots.{only_of, one_changed, without_seat}
use Rattle.group_machine.specs.State.{GroupState, assigned_of, is_anybody, is_present}
use Rattle.group_machine.specs.Moves.{takers, moves_to}
use Rattle.group_machine.specs.Completion.{all_joined, is_ready, is_over, next_rows_of}
use Rattle.group_machine.specs.Steps.{sync_answer, newcomer, rejoined_seat, phase_left}
use Rattle.group_machine.specs.Valid.{IsSized, IsDisjoint, AreConsistentSeats, IsHeldByLast}

-- the seat of member m after a change
abbrev pub seat_after : Change → ℕ → Option Seat → Option Seat
seat_after Joins m seat = seat
seat_after (Rejoins member) m seat = only_of member (option_map rejoined_seat) m seat
seat_after (Leaves member) m seat = only_of member (λ before. None) m seat

-- the slots after a change; a new member has this name
abbrev pub slots_after : ℕ → List ℕ → Change → List Slot → List Slot
slots_after partitions name Joins slots = slots ++ newcomer partitions name ∷ []
slots_after partitions name (Rejoins member) slots = one_changed rejoined_seat slots member
slots_after partitions name (Leaves member) slots = without_seat slots member

abbrev pub phase_after : Change → List Slot → Phase
phase_after Joins slots = Preparing
phase_after (Rejoins member) slots = Preparing
phase_after (Leaves member) slots = phase_left slots

-- the group after a change, before a completion: joining, rejoining or leaving
abbrev pub after : Change → List ℕ → GroupState → GroupState
after change name g = record g {
  slots = slots_after g.partitions name change g.slots;
  phase = phase_after change (slots_after g.partitions name change g.slots);
}

-- the invariant between a change and its completion
pub record IsChanged (g : GroupState) : Type 0 where
  pub sized : IsSized g
  pub disjoint : IsDisjoint g
  pub consistent : AreConsistentSeats g
  pub held : IsHeldByLast g
  pub some : is_anybody g ≡ true → g.phase ≡ Preparing
  pub gone : is_anybody g ≡ false → g.phase ≡ Empty
  pub counted : is_anybody g ≡ true → all_joined g ≡ false → 0 < g.generation

-- the completion of a group
pub record IsCompletion (g : GroupState) (a : Completion) : Type 0 where
  pub rows : a.next ≡ next_rows_of g
  pub taken : a.takers.items ≡ takers g a.next
  pub moved : a.moves.items ≡ moves_to g a.next

-- a completion is planned if one happens
abbrev pub IsPlanned : GroupState → Option Completion → Type 0
IsPlanned g None = is_ready g ≡ false
IsPlanned g (Some a) =
    (is_ready g ≡ true) × (g.generation < LAST_GENERATION) × IsCompletion g a

-- there is capacity for the moves of a planned completion
abbrev pub HasCapacity : Option Completion → ℕ → ℕ → Type 0
HasCapacity planned used capacity =
    (a : Completion) → planned ≡ Some a → used + length a.moves.items ≤ capacity

-- why planning fails: the generation would pass the last, or out of memory
abbrev pub IsRefused : GroupState → Refusal → Type 0
IsRefused g why =
    ((is_over g ≡ true) × (why ≡ r.GenerationsOver)) ⊎ (why ≡ r.Memory)

-- a member may sync, and is assigned this
abbrev pub IsLeasable : GroupState → ℕ → PartitionSet → Type 0
IsLeasable g member assigned =
    (sync_answer g member ≡ Ok tt)
    × (assigned ≡ assigned_of g member)
    × (is_present g member ≡ true)

-- member m is granted this set after a change
abbrev pub HasGranted : Change → ℕ → Option Seat → PartitionSet → Type 0
HasGranted change m seat granted =
    (after : Seat) × (seat_after change m seat ≡ Some after) × (granted ≡ after.granted)
