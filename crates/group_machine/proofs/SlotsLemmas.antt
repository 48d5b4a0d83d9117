-- Slots: what a change of seats leaves at each number.
use Rattle.std.proofs.Common.{ℕ, zero, suc, ◌≡◌, ◌+◌, ◌-◌, ◌<◌, ◌≤◌, ◌==◌, Bool, true, false, List, [], ◌∷◌, Option, Some, None, is_some, length, get_or, slice_get, cond, refl, ap, sym, ◌∙◌, arith}
use Rattle.std.proofs.lemmas.Bool.{false≢true}
use Rattle.std.proofs.lemmas.Bool.Decides.{nat_tests}
use Rattle.std.proofs.Math.ListN.{set}
use Rattle.std.specs.Option.{option_map}
use Rattle.group_machine.specs.declared.group.Slot.{Slot}
use Rattle.group_machine.specs.declared.group.Seat.{Seat}
use Rattle.group_machine.specs.Slots.{seat_in, seat_of, reseated_from, only_of, each_changed, one_changed, without_seat}

abbrev pub slot_with : List ℕ → Option Seat → Slot
slot_with name o = record { name = name; seat = o }

pub same_id : (n : ℕ) → (n == n) ≡ true
same_id n = grind (arith, nat_tests)

pub other_id : (m n : ℕ) → (m ≡ n → ⊥) → (m == n) ≡ false
other_id m n ne = grind (arith, nat_tests)

pub number_is : (m n : ℕ) → (m == n) ≡ true → m ≡ n
number_is m n e = grind (arith, nat_tests)

pub reseated_at : (m : ℕ) (f : ℕ → Option Seat → Option Seat) → ((n : ℕ) → f n None ≡ None) → (slots : List Slot) (k : ℕ) → seat_in (slice_get (reseated_from m f slots) k) ≡ f (m + k) (seat_in (slice_get slots k))
reseated_at m f none [] k = sym (none (m + k))
reseated_at m f none (s ∷ slots) zero = let e : m ≡ m + 0 = omega arith in ap (λ n. f n s.seat) e
reseated_at m f none (s ∷ slots) (suc k) = let e : suc m + k ≡ m + suc k = omega arith in reseated_at (suc m) f none slots k ∙ ap (λ n. f n (seat_in (slice_get slots k))) e

pub seat_of_reseated : (f : ℕ → Option Seat → Option Seat) → ((n : ℕ) → f n None ≡ None) → (slots : List Slot) (member : ℕ) → seat_of (reseated_from 1 f slots) member ≡ f member (seat_of slots member)
seat_of_reseated f none slots zero = sym (none 0)
seat_of_reseated f none slots (suc k) = let e : 1 + k ≡ suc k = omega arith in reseated_at 1 f none slots k ∙ ap (λ n. f n (seat_in (slice_get slots k))) e

pub seat_each : (f : ℕ → Seat → Seat) (slots : List Slot) (member : ℕ) → seat_of (each_changed f slots) member ≡ option_map (f member) (seat_of slots member)
seat_each f slots member = seat_of_reseated (λ m. option_map (f m)) (λ n. refl) slots member

only_none : (b : Bool) (f : Option Seat → Option Seat) → f None ≡ None → cond b (f None) None ≡ None
only_none true f e = e
only_none false f e = refl

pub seat_without : (slots : List Slot) (member m : ℕ) → seat_of (without_seat slots member) m ≡ cond (m == member) None (seat_of slots m)
seat_without slots member m = seat_of_reseated (only_of member (λ before. None)) (λ n. only_none (n == member) (λ before. None) refl) slots m

pub reseated_same : (m : ℕ) (f g : ℕ → Option Seat → Option Seat) (slots : List Slot) → ((k : ℕ) → k < length slots → f (m + k) (seat_in (slice_get slots k)) ≡ g (m + k) (seat_in (slice_get slots k))) → reseated_from m f slots ≡ reseated_from m g slots
reseated_same m f g [] same = refl
reseated_same m f g (s ∷ slots) same =
    let z : m + 0 ≡ m = omega arith in
    let here : f m s.seat ≡ g m s.seat = ap (λ n. f n s.seat) (sym z) ∙ same 0 (omega arith) ∙ ap (λ n. g n s.seat) z in
    let rest : reseated_from (suc m) f slots ≡ reseated_from (suc m) g slots = reseated_same (suc m) f g slots (λ k lt.
    let e : suc m + k ≡ m + suc k = omega arith in
    ap (λ n. f n (seat_in (slice_get slots k))) e ∙ same (suc k) (omega arith) ∙ ap (λ n. g n (seat_in (slice_get slots k))) (sym e)) in
    ap (λ o. slot_with s.name o ∷ reseated_from (suc m) f slots) here ∙ ap (λ r. slot_with s.name (g m s.seat) ∷ r) rest

pub reseated_not : (m : ℕ) (slots : List Slot) → reseated_from m (λ n o. o) slots ≡ slots
reseated_not m [] = refl
reseated_not m (s ∷ slots) = ap (λ r. s ∷ r) (reseated_not (suc m) slots)

-- a change of one member is a change of each that touches only it
abbrev pub at_only : ℕ → (Seat → Seat) → ℕ → Seat → Seat
at_only member f m x = cond (m == member) (f x) x

only_is : (b : Bool) (f : Seat → Seat) (o : Option Seat) → cond b (option_map f o) o ≡ option_map (λ x. cond b (f x) x) o
only_is true f None = refl
only_is false f None = refl
only_is true f (Some x) = refl
only_is false f (Some x) = refl

pub one_is_each : (f : Seat → Seat) (slots : List Slot) (member : ℕ) → one_changed f slots member ≡ each_changed (at_only member f) slots
one_is_each f slots member = reseated_same 1 (only_of member (option_map f)) (λ m. option_map (at_only member f m)) slots (λ k lt. only_is ((1 + k) == member) f (seat_in (slice_get slots k)))

set_at : (m : ℕ) (slots : List Slot) (k : ℕ) (s : Slot) (f : Option Seat → Option Seat) → k < length slots → s ≡ get_or slots k s → set slots k (slot_with s.name (f s.seat)) ≡ reseated_from m (only_of (m + k) f) slots
set_at m [] k s f lt e = absurd (omega arith)
set_at m (x ∷ slots) zero s f lt e =
    let z : m + 0 ≡ m = omega arith in
    rw (z, same_id m) (ap (λ t. slot_with t.name (f t.seat) ∷ slots) e ∙ ap (λ r. slot_with x.name (f x.seat) ∷ r) (sym (reseated_same (suc m) (only_of m f) (λ n o. o) slots (λ i l. past (suc m + i) (seat_in (slice_get slots i)) (omega arith)) ∙ reseated_not (suc m) slots)))
  where
    past : (n : ℕ) (o : Option Seat) → m < n → only_of m f n o ≡ o
    past n o lt = rw (other_id n m (λ is. omega (arith, is))) refl
set_at m (x ∷ slots) (suc k) s f lt e =
    let j : m + suc k ≡ suc m + k = omega arith in
    let before : only_of (suc m + k) f m x.seat ≡ x.seat = rw (other_id m (suc m + k) (λ is. omega (arith, is))) refl in
    rw j (ap (λ r. x ∷ r) (set_at (suc m) slots k s f (omega arith) e) ∙ ap (λ o. slot_with x.name o ∷ reseated_from (suc m) (only_of (suc m + k) f) slots) (sym before))

pub set_one : (slots : List Slot) (member k : ℕ) (s : Slot) (f : Option Seat → Option Seat) → member ≡ k + 1 → k < length slots → s ≡ get_or slots k s → set slots k (slot_with s.name (f s.seat)) ≡ reseated_from 1 (only_of member f) slots
set_one slots member k s f is lt e = let j : member ≡ 1 + k = omega arith in rw j (set_at 1 slots k s f lt e)

pub other_default : (slots : List Slot) (k : ℕ) (a b : Slot) → k < length slots → get_or slots k a ≡ get_or slots k b
other_default [] k a b lt = absurd (omega arith)
other_default (s ∷ slots) zero a b lt = refl
other_default (s ∷ slots) (suc k) a b lt = other_default slots k a b (omega arith)

seat_at_index : (slots : List Slot) (k : ℕ) (d : Slot) → k < length slots → (get_or slots k d).seat ≡ seat_in (slice_get slots k)
seat_at_index [] k d lt = absurd (omega arith)
seat_at_index (s ∷ slots) zero d lt = refl
seat_at_index (s ∷ slots) (suc k) d lt = seat_at_index slots k d (omega arith)

pub seat_at : (slots : List Slot) (member : ℕ) (d : Slot) → 0 < member → member ≤ length slots → (get_or slots (member - 1) d).seat ≡ seat_of slots member
seat_at slots zero d some few = absurd (omega arith)
seat_at slots (suc k) d some few = let n : suc k - 1 ≡ k = omega arith in rw n (seat_at_index slots k d (omega arith))

pub seat_put : (slots : List Slot) (member : ℕ) (d : Slot) (f : Option Seat → Option Seat) → 0 < member → member ≤ length slots → set slots (member - 1) (slot_with (get_or slots (member - 1) d).name (f (get_or slots (member - 1) d).seat)) ≡ reseated_from 1 (only_of member f) slots
seat_put slots member d f some few = set_one slots member (member - 1) (get_or slots (member - 1) d) f (omega arith) (omega arith) (other_default slots (member - 1) d (get_or slots (member - 1) d) (omega arith))

some_at : (slots : List Slot) (k : ℕ) → is_some (seat_in (slice_get slots k)) ≡ true → k < length slots
some_at [] k e = absurd (false≢true e)
some_at (s ∷ slots) zero e = omega arith
some_at (s ∷ slots) (suc k) e = omega (arith, some_at slots k e)

pub number_given : (slots : List Slot) (member : ℕ) → is_some (seat_of slots member) ≡ true → (0 < member) × (member ≤ length slots)
number_given slots zero e = absurd (false≢true e)
number_given slots (suc k) e = (omega arith, omega (arith, some_at slots k e))

some_is : (o : Option Seat) → is_some o ≡ true → (x : Seat) × (o ≡ Some x)
some_is None e = absurd (false≢true e)
some_is (Some x) e = (x, refl)

pub present_at : (slots : List Slot) (member : ℕ) (d : Slot) → is_some (seat_of slots member) ≡ true → (x : Seat) × ((get_or slots (member - 1) d).seat ≡ Some x)
present_at slots member d e =
    let given = number_given slots member e in
    let x = some_is (seat_of slots member) e in
    (x.0, seat_at slots member d given.0 given.1 ∙ x.1)

pub seat_of_index : (slots : List Slot) (i : ℕ) (s : Slot) (x : Seat) → i < length slots → s ≡ get_or slots i s → s.seat ≡ Some x → seat_of slots (suc i) ≡ Some x
seat_of_index slots i s x lt e is = sym (seat_at_index slots i s lt) ∙ ap (λ t. t.seat) (sym e) ∙ is
