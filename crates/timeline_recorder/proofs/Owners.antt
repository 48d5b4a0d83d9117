-- The owner of a partition is the member that it is granted to.
use Rattle.std.proofs.Common.{◌≡◌, ◌∙◌, ◌+◌, ℕ, zero, suc, Bool, true, false, List, [], ◌∷◌, Option, Some, None, refl, sym, ap, arith}
use Rattle.std.specs.Prelude.{find, slice_get}
use Rattle.std.specs.Option.{option_map}
use Rattle.bit_planes.specs.PartitionSet.{is_in}
use Rattle.group_machine.specs.Slots.{and_member, present_from, seat_in}
use Rattle.group_machine.specs.declared.group.Seat.{Seat}
use Rattle.group_machine.specs.declared.group.Slot.{Slot}

abbrev pub owner_among : List (ℕ × Seat) → ℕ → Option ℕ
owner_among rows q = option_map (λ m. m.0) (find (λ m. is_in m.1.granted q) rows)

skip_tested : (b : Bool) (m q : ℕ) (seat : Seat) (rows : List (ℕ × Seat)) → is_in seat.granted q ≡ b → (b ≡ true → ⊥) → owner_among ((m, seat) ∷ rows) q ≡ owner_among rows q
skip_tested true m q seat rows is never = absurd (never refl)
skip_tested false m q seat rows is never = rw is refl

skip : (seat : Option Seat) (m q : ℕ) (rows : List (ℕ × Seat)) → ((other : Seat) → seat ≡ Some other → is_in other.granted q ≡ true → ⊥) → owner_among (and_member m seat rows) q ≡ owner_among rows q
skip None m q rows never = refl
skip (Some seat) m q rows never = skip_tested (is_in seat.granted q) m q seat rows refl (never seat refl)

pub owner_from : (m : ℕ) (slots : List Slot) (q j : ℕ) (seat : Seat) → seat_in (slice_get slots j) ≡ Some seat → is_in seat.granted q ≡ true
    → ((i : ℕ) (other : Seat) → seat_in (slice_get slots i) ≡ Some other → is_in other.granted q ≡ true → i ≡ j) → owner_among (present_from m slots) q ≡ Some (m + j)
owner_from m [] q j seat is given alone = cc
owner_from m (s ∷ slots) q zero seat is given alone =
    let first : owner_among ((m, seat) ∷ present_from (suc m) slots) q ≡ Some m = rw given refl in
    ap (λ (o : Option Seat). owner_among (and_member m o (present_from (suc m) slots)) q) is ∙ first ∙ ap (λ (k : ℕ). let o : Option ℕ = Some k in o) (omega arith)
owner_from m (s ∷ slots) q (suc j) seat is given alone =
    let later = owner_from (suc m) slots q j seat is given (λ i other e h. let same : suc i ≡ suc j = alone (suc i) other e h in omega arith) in
    skip s.seat m q (present_from (suc m) slots) (λ other e h. let same : zero ≡ suc j = alone zero other e h in omega arith)
    ∙ later ∙ ap (λ (k : ℕ). let o : Option ℕ = Some k in o) (omega arith)
