-- The member that a join brings.
use Rattle.std.proofs.Common.{ℕ, zero, suc, ◌≡◌, ◌+◌, ◌<◌, Bool, true, false, List, [], ◌∷◌, ◌++◌, Option, Some, None, Result, Ok, Err, is_some, length, slice_get, nat_le, cond, refl, ap, arith, ◌∙◌}
use Rattle.std.proofs.lemmas.Bool.Decides.{nat_tests}
use Rattle.std.specs.Option.{option_map}
use Rattle.lane_words.specs.declared.Refusal.{Refusal}
use Rattle.lane_words.specs.declared.limits.TheConstants.{MOST_MEMBERS}
use Rattle.lane_words.specs.declared.Refusal.TheVariants as r
use Rattle.group_machine.specs.declared.group.Slot.{Slot}
use Rattle.group_machine.specs.declared.group.Seat.{Seat}
use Rattle.group_machine.specs.Slots.{seat_in}
use Rattle.group_machine.specs.State.{GroupState, member_of, is_present}
use Rattle.group_machine.specs.Steps.{is_name_used, join_answer, newcomer, joining, joined_by}
use Rattle.group_machine.specs.Completion.{is_ready, completed_seat, next_rows_of, complete, completed}
use Rattle.group_machine.proofs.SlotsLemmas.{seat_each}
use Rattle.group_machine.proofs.PresentLemmas.{some_on}

pub seat_before : (slots : List Slot) (s : Slot) (k : ℕ) → (k ≡ length slots → ⊥) → seat_in (slice_get (slots ++ s ∷ []) k) ≡ seat_in (slice_get slots k)
seat_before [] s zero ne = absurd (ne refl)
seat_before [] s (suc k) ne = refl
seat_before (t ∷ slots) s zero ne = refl
seat_before (t ∷ slots) s (suc k) ne = seat_before slots s k (λ e. ne (ap (λ n. suc n) e))

pub seat_last : (slots : List Slot) (s : Slot) → seat_in (slice_get (slots ++ s ∷ []) (length slots)) ≡ s.seat
seat_last [] s = refl
seat_last (t ∷ slots) s = seat_last slots s

joined_number : (a : Bool) (slots n : ℕ) (full : Bool) → ◌≡◌ {A = Result ℕ Refusal} (cond a (Err r.NameUsed) (cond (nat_le MOST_MEMBERS slots) (Err r.TooManyMembers) (cond full (Err r.GenerationsOver) (Ok (slots + 1))))) (Ok n) → (slots < MOST_MEMBERS) × (n ≡ slots + 1)
joined_number true slots n full e = cc
joined_number false slots n full e = go (nat_le MOST_MEMBERS slots) refl e
  where
    go : (b : Bool) → nat_le MOST_MEMBERS slots ≡ b → ◌≡◌ {A = Result ℕ Refusal} (cond b (Err r.TooManyMembers) (cond full (Err r.GenerationsOver) (Ok (slots + 1)))) (Ok n) → (slots < MOST_MEMBERS) × (n ≡ slots + 1)
    go true is h = cc
    go false is h = (grind (arith, nat_tests), last full h)
      where
        last : (c : Bool) → ◌≡◌ {A = Result ℕ Refusal} (cond c (Err r.GenerationsOver) (Ok (slots + 1))) (Ok n) → n ≡ slots + 1
        last true k = cc
        last false k = cc

pub accepted_join : (g : GroupState) (name : List ℕ) (n : ℕ) → join_answer g name ≡ Ok n → (length g.slots < MOST_MEMBERS) × (n ≡ length g.slots + 1)
accepted_join g name n ok = joined_number (is_name_used g name) (length g.slots) n _ ok

pub completed_present : (g : GroupState) (n : ℕ) → is_present (completed g) n ≡ is_present g n
completed_present g n = go (is_ready g)
  where
    go : (b : Bool) → is_present (cond b (complete g) g) n ≡ is_present g n
    go true = ap is_some (seat_each (completed_seat (next_rows_of g)) g.slots n) ∙ some_on (completed_seat (next_rows_of g) n) (member_of g n)
    go false = refl

pub joined_newcomer : (g : GroupState) (name : List ℕ) → is_present (joined_by g name) (length g.slots + 1) ≡ true
joined_newcomer g name =
    let number : length g.slots + 1 ≡ suc (length g.slots) = omega arith in
    ap (λ m. is_present (joined_by g name) m) number
    ∙ completed_present (joining g name) (suc (length g.slots))
    ∙ ap is_some (seat_last g.slots (newcomer g.partitions name))
