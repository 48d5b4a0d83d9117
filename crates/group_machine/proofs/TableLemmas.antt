-- What the calls of a table come to, in words of the group.
use Rattle.std.proofs.Common.{ℕ, suc, ◌≡◌, ◌+◌, ◌<◌, ◌≤◌, ◌==◌, Bool, true, false, ◌&&◌, inl, inr, List, [], ◌∷◌, ◌++◌, Option, Some, None, Ok, Err, length, cond, nat_eq, nat_le, is_some, refl, ap, sym, ◌∙◌, arith}
use Rattle.std.proofs.lemmas.Bool.Decides.{nat_tests}
use Rattle.std.specs.List.{list_all}
use Rattle.std.specs.Option.{option_map_or}
use Rattle.lane_words.specs.declared.limits.TheConstants.{LAST_GENERATION, MOST_MEMBERS}
use Rattle.lane_words.specs.Answers.{Answers}
use Rattle.lane_words.specs.declared.Refusal.{Refusal}
use Rattle.lane_words.specs.declared.Refusal.TheVariants as r
use Rattle.bit_planes.specs.PartitionSet.{PartitionSet, partitions_of, is_in, is_same}
use Rattle.bit_planes.specs.SetRows.{SetRows, set_of}
use Rattle.bit_planes.proofs.Sets.{same_says}
use Rattle.coop_rebalance.specs.Rounds.{AreGranted, next_rows}
use Rattle.group_machine.specs.declared.group.Slot.{Slot}
use Rattle.group_machine.specs.declared.group.Seat.{Seat}
use Rattle.group_machine.specs.declared.group.Move.{Move}
use Rattle.group_machine.specs.declared.group.Phase.{Phase}
use Rattle.group_machine.specs.declared.group.Phase.TheVariants.{Stable}
use Rattle.group_machine.specs.Slots.{and_member, present_from, present, each_changed}
use Rattle.group_machine.specs.State.{GroupState, member_of, is_present, is_anybody, granted_rows}
use Rattle.group_machine.specs.Moves.{moves_to, last_after}
use Rattle.group_machine.specs.Completion.{completed_seat, completed_with, complete, is_ready}
use Rattle.group_machine.specs.Steps.{unless_over, is_name_used, joining, join_answer, rejoin_refusal, rejoining, rejoin_answer, leaving, leave_answer}
use Rattle.group_machine.specs.Valid.{AreConsistentSeats}
use Rattle.group_machine.specs.declared.group.completion.Completion.{Completion}
use Rattle.group_machine.specs.Private.Changes.{IsChanged, IsPlanned, IsRefused}
use Rattle.group_machine.specs.Private.Walks.{AreSeatsOver}
use Rattle.group_machine.proofs.GroupLemmas.{granted_owned}
use Rattle.group_machine.proofs.Below.{next_below, next_disjoint}

pub not_same : (s t : PartitionSet) (a b : ℕ) → a ≡ partitions_of s → b ≡ partitions_of t → (a ≡ b → ⊥) → nat_eq a b ≡ is_same s t
not_same s t a b pa pb ne = other (nat_eq a b) refl ∙ sym (go (is_same s t) refl)
  where
    other : (c : Bool) → nat_eq a b ≡ c → nat_eq a b ≡ false
    other true e = absurd (ne (grind (arith, nat_tests)))
    other false e = e

    go : (c : Bool) → is_same s t ≡ c → is_same s t ≡ false
    go false e = e
    go true e = absurd (ne (pa ∙ ap partitions_of (same_says s t e) ∙ sym pb))

all_and : (test : Seat → Bool) (m : ℕ) (o : Option Seat) (xs : List (ℕ × Seat)) → list_all {X = ℕ × Seat} (λ r. test r.1) (and_member m o xs) ≡ (option_map_or test o true && list_all (λ r. test r.1) xs)
all_and test m None xs = refl
all_and test m (Some x) xs = refl

all_from : (test : Seat → Bool) (m : ℕ) (slots : List Slot) → list_all (λ s. option_map_or test s.seat true) slots ≡ list_all {X = ℕ × Seat} (λ r. test r.1) (present_from m slots)
all_from test m [] = refl
all_from test m (s ∷ slots) = ap (λ b. option_map_or test s.seat true && b) (all_from test (suc m) slots) ∙ sym (all_and test m s.seat (present_from (suc m) slots))

pub all_present : (test : Seat → Bool) (slots : List Slot) → list_all (λ s. option_map_or test s.seat true) slots ≡ list_all {X = ℕ × Seat} (λ r. test r.1) (present slots)
all_present test slots = all_from test 1 slots

pub seats_over : (g : GroupState) → AreConsistentSeats g → AreSeatsOver g.partitions g.slots
seats_over g consistent m x is = record { granted = (consistent m x is).granted_below; assigned = (consistent m x is).assigned_below }

pub owned_rows : (g : GroupState) → IsChanged g → is_anybody g ≡ true → AreGranted (granted_rows g)
owned_rows g changed any = granted_owned g changed.sized changed.consistent changed.disjoint any

pub rows_below : (g : GroupState) (next : SetRows) → IsChanged g → is_anybody g ≡ true → next ≡ next_rows (granted_rows g) → next.partitions ≡ g.partitions
rows_below g next changed any is = ap (λ n. n.partitions) is ∙ next_below (granted_rows g) (owned_rows g changed any)

pub rows_disjoint : (g : GroupState) (next : SetRows) → IsChanged g → is_anybody g ≡ true → next ≡ next_rows (granted_rows g) → (m n q : ℕ) → is_in (set_of next m) q ≡ true → is_in (set_of next n) q ≡ true → m ≡ n
rows_disjoint g next changed any is m n q e h = next_disjoint (granted_rows g) (owned_rows g changed any) m n q (ap (λ k. is_in (set_of k m) q) (sym is) ∙ e) (ap (λ k. is_in (set_of k n) q) (sym is) ∙ h)

abbrev parts : ℕ → ℕ → List Slot → List (Option ℕ) → List Move → GroupState
parts generation p slots last moves = record { generation = generation; phase = Stable; partitions = p; slots = slots; last = last; moves = moves }

pub complete_is : (g : GroupState) (next : SetRows) (slots : List Slot) (last : List (Option ℕ)) (moves : List Move) → next ≡ next_rows (granted_rows g) → slots ≡ each_changed (completed_seat next) g.slots → last ≡ last_after g next → moves ≡ g.moves ++ moves_to g next → record { generation = g.generation + 1; phase = Stable; partitions = g.partitions; slots = slots; last = last; moves = moves } ≡ complete g
complete_is g next slots last moves is_next is_slots is_last is_moves =
    ap (λ s. parts (g.generation + 1) g.partitions s last moves) is_slots
    ∙ ap (λ l. parts (g.generation + 1) g.partitions (each_changed (completed_seat next) g.slots) l moves) is_last
    ∙ ap (λ m. parts (g.generation + 1) g.partitions (each_changed (completed_seat next) g.slots) (last_after g next) m) is_moves
    ∙ ap (completed_with g) is_next

pub refused_answer : {A : Type 0} (g : GroupState) (x : A) (why : Refusal) → IsRefused g why → Answers (unless_over g x) (Err why)
refused_answer g x why (inl h) = inl (rw (h.0, h.1) refl)
refused_answer g x why (inr h) = inr (ap (λ w. Err w) h)

pub planned_answer : {A : Type 0} (g : GroupState) (x : A) (planned : Option Completion) → IsPlanned g planned → Ok x ≡ unless_over g x
planned_answer g x None e = rw e refl
planned_answer g x (Some a) e = go (g.generation == LAST_GENERATION) refl
  where
    go : (b : Bool) → (g.generation == LAST_GENERATION) ≡ b → Ok x ≡ cond (is_ready g && b) (Err r.GenerationsOver) (Ok x)
    go true is = absurd (less (g.generation) e.1 is)
      where
        less : (n : ℕ) → n < LAST_GENERATION → (n == LAST_GENERATION) ≡ true → ⊥
        less n lt is = grind (arith, nat_tests)
    go false is = go2 (is_ready g)
      where
        go2 : (c : Bool) → Ok x ≡ cond (c && false) (Err r.GenerationsOver) (Ok x)
        go2 true = refl
        go2 false = refl

pub used_answer : (g : GroupState) (name : List ℕ) → is_name_used g name ≡ true → Err r.NameUsed ≡ join_answer g name
used_answer g name e = rw e refl

le_is : (a b : ℕ) → a ≤ b → nat_le a b ≡ true
le_is a b le = grind (arith, nat_tests)

gt_is : (a b : ℕ) → b < a → nat_le a b ≡ false
gt_is a b lt = grind (arith, nat_tests)

pub many_answer : (g : GroupState) (name : List ℕ) → is_name_used g name ≡ false → MOST_MEMBERS ≤ length g.slots → Err r.TooManyMembers ≡ join_answer g name
many_answer g name e le = rw (e, le_is MOST_MEMBERS (length g.slots) le) refl

pub join_go : (g : GroupState) (name : List ℕ) → is_name_used g name ≡ false → length g.slots < MOST_MEMBERS → join_answer g name ≡ unless_over (joining g name) (length g.slots + 1)
join_go g name e lt = rw (e, gt_is MOST_MEMBERS (length g.slots) lt) refl

abbrev pub with_phase : GroupState → Phase → List Slot → GroupState
with_phase g phase slots = record g { slots = slots; phase = phase }

pub rejoin_go : (g : GroupState) (member generation : ℕ) (claim : PartitionSet) → rejoin_refusal g generation claim (member_of g member) ≡ None → rejoin_answer g member generation claim ≡ unless_over (rejoining g member) tt
rejoin_go g member generation claim e = ap (λ o. option_map_or Err o (unless_over (rejoining g member) tt)) e

pub leave_go : (g : GroupState) (member : ℕ) → is_present g member ≡ true → leave_answer g member ≡ unless_over (leaving g member) tt
leave_go g member e = rw e refl

pub accepted_present : (g : GroupState) (generation : ℕ) (claim : PartitionSet) (o : Option Seat) → rejoin_refusal g generation claim o ≡ None → is_some o ≡ true
accepted_present g generation claim None e = cc
accepted_present g generation claim (Some x) e = refl
