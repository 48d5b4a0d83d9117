-- The number of members that a group ever had, through its steps.
use Rattle.std.proofs.Common.{◌≡◌, ◌∙◌, ◌+◌, ℕ, suc, Bool, true, false, List, [], ◌∷◌, Option, Some, length, refl, ap, length-append}
use Rattle.std.specs.Prelude.{if◌then◌else◌}
use Rattle.std.specs.Option.{option_map_or}
use Rattle.group_machine.specs.declared.group.Seat.{Seat}
use Rattle.group_machine.specs.declared.group.Slot.{Slot}
use Rattle.group_machine.specs.Completion.{complete, completed, is_ready}
use Rattle.group_machine.specs.Slots.{reseated_from, without_seat}
use Rattle.group_machine.specs.State.{GroupState, static_member}
use Rattle.group_machine.specs.Steps.{handing_on, joined_by, joined_static_by, joining, leaving, left_by, newcomer, rejoined_by, rejoining, successor, synced_by, taken_over_by}

length-reseated : (m : ℕ) (f : ℕ → Option Seat → Option Seat) (slots : List Slot) → length (reseated_from m f slots) ≡ length slots
length-reseated m f [] = refl
length-reseated m f (s ∷ slots) = ap suc (length-reseated (suc m) f slots)

either : (b : Bool) (g h : GroupState) (n : ℕ) → length g.slots ≡ n → length h.slots ≡ n → length (if b then g else h).slots ≡ n
either true g h n same other = same
either false g h n same other = other

completed_slots : (g : GroupState) → length (completed g).slots ≡ length g.slots
completed_slots g = either (is_ready g) (complete g) g (length g.slots) (length-reseated 1 _ g.slots) refl

pub joined_slots : (g : GroupState) (name : List ℕ) → length (joined_by g name).slots ≡ length g.slots + 1
joined_slots g name = completed_slots (joining g name) ∙ length-append g.slots (newcomer g.partitions name ∷ [])

pub rejoined_slots : (g : GroupState) (m : ℕ) → length (rejoined_by g m).slots ≡ length g.slots
rejoined_slots g m = completed_slots (rejoining g m) ∙ length-reseated 1 _ g.slots

pub left_slots : (g : GroupState) (m : ℕ) → length (left_by g m).slots ≡ length g.slots
left_slots g m = completed_slots (leaving g m) ∙ length-reseated 1 _ g.slots

pub synced_slots : (g : GroupState) (m : ℕ) → length (synced_by g m).slots ≡ length g.slots
synced_slots g m = length-reseated 1 _ g.slots

pub joined_static_slots : (g : GroupState) (name : List ℕ) → length (joined_static_by g name).slots ≡ length g.slots + 1
joined_static_slots g name = length-reseated 1 _ (joined_by g name).slots ∙ joined_slots g name

pub taken_over_slots : (g : GroupState) (name : List ℕ) (m : ℕ) → static_member g name ≡ Some m → length (taken_over_by g name).slots ≡ length g.slots + 1
taken_over_slots g name m is_static =
    let same : taken_over_by g name ≡ handing_on g name m = ap (λ o. option_map_or (handing_on g name) o g) is_static in
    ap (λ (h : GroupState). length h.slots) same ∙ length-append (without_seat g.slots m) (successor g name m ∷ []) ∙ ap (λ n. n + 1) (length-reseated 1 _ g.slots)
