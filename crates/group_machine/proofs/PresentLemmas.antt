-- The present members: what their list and the look-up of one say of each other.
use Rattle.std.proofs.Common.{ℕ, zero, suc, ◌≡◌, ◌+◌, ◌<◌, ◌≤◌, Bool, true, false, ◌&&◌, ◌||◌, ◌⊎◌, inl, inr, List, [], ◌∷◌, Option, Some, None, is_some, length, map, get_or, slice_get, refl, ap, sym, ◌∙◌, arith}
use Rattle.std.proofs.lemmas.Bool.{false≢true}
use Rattle.std.specs.List.{list_any, list_all}
use Rattle.std.specs.Option.{option_map}
use Rattle.std.specs.List.Sorted.{IsStrictlyIncreasing}
use Rattle.bit_planes.specs.PartitionSet.{PartitionSet}
use Rattle.bit_planes.specs.SetRows.{find_row}
use Rattle.bit_planes.proofs.RowLaws.{rising_first, rising_from, rising_more, rising_rest}
use Rattle.group_machine.specs.declared.group.Slot.{Slot}
use Rattle.group_machine.specs.declared.group.Seat.{Seat}
use Rattle.group_machine.specs.Slots.{seat_in, seat_of, and_member, present_from, present, reseated_from, each_changed}
use Rattle.group_machine.proofs.SlotsLemmas.{other_id, same_id}

-- ---- numbers that rise from one on
abbrev pub RisesFrom : ℕ → List ℕ → Type 0
RisesFrom m [] = Unit {0}
RisesFrom m (x ∷ xs) = (m ≤ x) × RisesFrom (suc x) xs

pub rises_later : (m n : ℕ) (xs : List ℕ) → m ≤ n → RisesFrom n xs → RisesFrom m xs
rises_later m n [] le up = tt
rises_later m n (x ∷ xs) le up = (omega (arith, up.0), up.1)

rises_at : (m : ℕ) (xs : List ℕ) (i : ℕ) → RisesFrom m xs → i < length xs → m ≤ get_or xs i 0
rises_at m [] i up lt = absurd (omega arith)
rises_at m (x ∷ xs) zero up lt = up.0
rises_at m (x ∷ xs) (suc i) up lt = omega (arith, up.0, rises_at (suc x) xs i up.1 (omega arith))

pub rising : (m : ℕ) (xs : List ℕ) → RisesFrom m xs → IsStrictlyIncreasing xs
rising m [] up = rising_from [] (λ i j less lt. absurd (omega arith))
rising m (x ∷ xs) up = rising_more x xs (λ i lt. omega (arith, rises_at (suc x) xs i up.1 lt)) (rising (suc x) xs up.1)

pub rises : (m : ℕ) (xs : List ℕ) → ((i : ℕ) → i < length xs → m ≤ get_or xs i 0) → IsStrictlyIncreasing xs → RisesFrom m xs
rises m [] above up = tt
rises m (x ∷ xs) above up = (above 0 (omega arith), rises (suc x) xs (λ i lt. let h : x < get_or xs i 0 = rising_first x xs up i lt in omega arith) (rising_rest x xs up))

numbers_and : (m : ℕ) (o : Option Seat) (rows : List (ℕ × Seat)) → RisesFrom (suc m) (map (λ r. r.0) rows) → RisesFrom m (map (λ r. r.0) (and_member m o rows))
numbers_and m None rows up = rises_later m (suc m) (map (λ r. r.0) rows) (omega arith) up
numbers_and m (Some x) rows up = (omega arith, up)

pub present_rises : (m : ℕ) (slots : List Slot) → RisesFrom m (map (λ r. r.0) (present_from m slots))
present_rises m [] = tt
present_rises m (s ∷ slots) = numbers_and m s.seat (present_from (suc m) slots) (present_rises (suc m) slots)

-- ---- a change of each member's seat
and_changed : (m : ℕ) (f : ℕ → Seat → Seat) (o : Option Seat) (rows : List (ℕ × Seat)) → and_member m (option_map (f m) o) (map (λ r. (r.0, f r.0 r.1)) rows) ≡ map (λ r. (r.0, f r.0 r.1)) (and_member m o rows)
and_changed m f None rows = refl
and_changed m f (Some x) rows = refl

present_changed : (m : ℕ) (f : ℕ → Seat → Seat) (slots : List Slot) → present_from m (reseated_from m (λ n. option_map (f n)) slots) ≡ map (λ r. (r.0, f r.0 r.1)) (present_from m slots)
present_changed m f [] = refl
present_changed m f (s ∷ slots) = ap (λ rows. and_member m (option_map (f m) s.seat) rows) (present_changed (suc m) f slots) ∙ and_changed m f s.seat (present_from (suc m) slots)

pub present_each : (f : ℕ → Seat → Seat) (slots : List Slot) → present (each_changed f slots) ≡ map (λ r. (r.0, f r.0 r.1)) (present slots)
present_each f slots = present_changed 1 f slots

-- ---- look-ups
find_and : (h : Seat → PartitionSet) (m n : ℕ) (o : Option Seat) (rows : List (ℕ × Seat)) → (m ≡ n → ⊥) → find_row (map (λ r. (r.0, h r.1)) (and_member m o rows)) n ≡ find_row (map (λ r. (r.0, h r.1)) rows) n
find_and h m n None rows ne = refl
find_and h m n (Some x) rows ne = rw (other_id m n ne) refl

find_before : (h : Seat → PartitionSet) (m : ℕ) (slots : List Slot) (n : ℕ) → n < m → find_row (map (λ r. (r.0, h r.1)) (present_from m slots)) n ≡ None
find_before h m [] n lt = refl
find_before h m (s ∷ slots) n lt = find_and h m n s.seat (present_from (suc m) slots) (λ is. omega (arith, is)) ∙ find_before h (suc m) slots n (omega arith)

find_here : (h : Seat → PartitionSet) (m : ℕ) (o : Option Seat) (rows : List (ℕ × Seat)) → find_row (map (λ r. (r.0, h r.1)) rows) m ≡ None → find_row (map (λ r. (r.0, h r.1)) (and_member m o rows)) m ≡ option_map h o
find_here h m None rows none = none
find_here h m (Some x) rows none = rw (same_id m) refl

find_from : (h : Seat → PartitionSet) (m : ℕ) (slots : List Slot) (k : ℕ) → find_row (map (λ r. (r.0, h r.1)) (present_from m slots)) (m + k) ≡ option_map h (seat_in (slice_get slots k))
find_from h m [] k = refl
find_from h m (s ∷ slots) zero =
    let z : m + 0 ≡ m = omega arith in
    rw z (find_here h m s.seat (present_from (suc m) slots) (find_before h (suc m) slots m (omega arith)))
find_from h m (s ∷ slots) (suc k) =
    let e : m + suc k ≡ suc m + k = omega arith in
    rw e (find_and h m (suc m + k) s.seat (present_from (suc m) slots) (λ is. omega (arith, is)) ∙ find_from h (suc m) slots k)

pub find_present : (h : Seat → PartitionSet) (slots : List Slot) (member : ℕ) → find_row (map (λ r. (r.0, h r.1)) (present slots)) member ≡ option_map h (seat_of slots member)
find_present h slots zero = find_before h 1 slots 0 (omega arith)
find_present h slots (suc k) = let e : suc k ≡ 1 + k = omega arith in ap (λ n. find_row (map (λ r. (r.0, h r.1)) (present slots)) n) e ∙ find_from h 1 slots k

-- ---- a test of each present member
all_and : (p : Seat → Bool) (m : ℕ) (o : Option Seat) (rows : List (ℕ × Seat)) → list_all (λ r. p r.1) (and_member m o rows) ≡ true → ((x : Seat) → o ≡ Some x → p x ≡ true) × (list_all (λ r. p r.1) rows ≡ true)
all_and p m None rows e = (λ x is. cc, e)
all_and p m (Some y) rows e = go (p y) refl e
  where
    go : (b : Bool) → p y ≡ b → (b && list_all (λ r. p r.1) rows) ≡ true → ((x : Seat) → Some y ≡ Some x → p x ≡ true) × (list_all (λ r. p r.1) rows ≡ true)
    go true b e = (λ x is. let same : y ≡ x = cc in ap p (sym same) ∙ b, e)
    go false b e = absurd (false≢true e)

all_says_from : (p : Seat → Bool) (m : ℕ) (slots : List Slot) (k : ℕ) (x : Seat) → list_all (λ r. p r.1) (present_from m slots) ≡ true → seat_in (slice_get slots k) ≡ Some x → p x ≡ true
all_says_from p m [] k x e is = cc
all_says_from p m (s ∷ slots) zero x e is = (all_and p m s.seat (present_from (suc m) slots) e).0 x is
all_says_from p m (s ∷ slots) (suc k) x e is = all_says_from p (suc m) slots k x ((all_and p m s.seat (present_from (suc m) slots) e).1) is

pub all_says : (p : Seat → Bool) (slots : List Slot) (member : ℕ) (x : Seat) → list_all (λ r. p r.1) (present slots) ≡ true → seat_of slots member ≡ Some x → p x ≡ true
all_says p slots zero x e is = cc
all_says p slots (suc k) x e is = all_says_from p 1 slots k x e is

all_of_and : (p : Seat → Bool) (m : ℕ) (o : Option Seat) (rows : List (ℕ × Seat)) → ((x : Seat) → o ≡ Some x → p x ≡ true) → list_all (λ r. p r.1) rows ≡ true → list_all (λ r. p r.1) (and_member m o rows) ≡ true
all_of_and p m None rows here rest = rest
all_of_and p m (Some y) rows here rest = rw (here y refl) rest

all_of_from : (p : Seat → Bool) (m : ℕ) (slots : List Slot) → ((k : ℕ) (x : Seat) → seat_in (slice_get slots k) ≡ Some x → p x ≡ true) → list_all (λ r. p r.1) (present_from m slots) ≡ true
all_of_from p m [] each = refl
all_of_from p m (s ∷ slots) each = all_of_and p m s.seat (present_from (suc m) slots) (λ x is. each 0 x is) (all_of_from p (suc m) slots (λ k x is. each (suc k) x is))

pub all_of : (p : Seat → Bool) (slots : List Slot) → ((member : ℕ) (x : Seat) → seat_of slots member ≡ Some x → p x ≡ true) → list_all (λ r. p r.1) (present slots) ≡ true
all_of p slots each = all_of_from p 1 slots (λ k x is. each (suc k) x is)

not_and : (p : Seat → Bool) (m : ℕ) (o : Option Seat) (rows : List (ℕ × Seat)) → list_all (λ r. p r.1) (and_member m o rows) ≡ false → ((x : Seat) × (o ≡ Some x) × (p x ≡ false)) ⊎ (list_all (λ r. p r.1) rows ≡ false)
not_and p m None rows e = inr e
not_and p m (Some y) rows e = go (p y) refl e
  where
    go : (b : Bool) → p y ≡ b → (b && list_all (λ r. p r.1) rows) ≡ false → ((x : Seat) × (Some y ≡ Some x) × (p x ≡ false)) ⊎ (list_all (λ r. p r.1) rows ≡ false)
    go true b e = inr e
    go false b e = inl (y, refl, b)

not_from : (p : Seat → Bool) (m : ℕ) (slots : List Slot) → list_all (λ r. p r.1) (present_from m slots) ≡ false → (k : ℕ) × (x : Seat) × (seat_in (slice_get slots k) ≡ Some x) × (p x ≡ false)
not_from p m [] e = absurd (false≢true (sym e))
not_from p m (s ∷ slots) e = elim (not_and p m s.seat (present_from (suc m) slots) e) [ inl h ↦ (0, h.0, h.1, h.2) | inr h ↦ (let r = not_from p (suc m) slots h in (suc r.0, r.1, r.2, r.3)) ]

pub some_not : (p : Seat → Bool) (slots : List Slot) → list_all (λ r. p r.1) (present slots) ≡ false → (member : ℕ) × (x : Seat) × (seat_of slots member ≡ Some x) × (p x ≡ false)
some_not p slots e = let r = not_from p 1 slots e in (suc r.0, r.1, r.2, r.3)

-- ---- somebody
or_true : (b : Bool) → (b || true) ≡ true
or_true true = refl
or_true false = refl

any_from : (slots : List Slot) (k : ℕ) (x : Seat) → seat_in (slice_get slots k) ≡ Some x → list_any (λ s. is_some s.seat) slots ≡ true
any_from [] k x is = cc
any_from (s ∷ slots) zero x is = rw is refl
any_from (s ∷ slots) (suc k) x is = rw (any_from slots k x is) (or_true (is_some s.seat))

pub any_of : (slots : List Slot) (member : ℕ) (x : Seat) → seat_of slots member ≡ Some x → list_any (λ s. is_some s.seat) slots ≡ true
any_of slots zero x is = cc
any_of slots (suc k) x is = any_from slots k x is

any_count_and : (m : ℕ) (o : Option Seat) (b : Bool) (rows : List (ℕ × Seat)) → (b ≡ true → 0 < length rows) → (is_some o || b) ≡ true → 0 < length (and_member m o rows)
any_count_and m None b rows rest e = rest e
any_count_and m (Some x) b rows rest e = omega arith

any_count_from : (m : ℕ) (slots : List Slot) → list_any (λ s. is_some s.seat) slots ≡ true → 0 < length (present_from m slots)
any_count_from m [] e = absurd (false≢true e)
any_count_from m (s ∷ slots) e = any_count_and m s.seat (list_any (λ t. is_some t.seat) slots) (present_from (suc m) slots) (any_count_from (suc m) slots) e

pub any_count : (slots : List Slot) → list_any (λ s. is_some s.seat) slots ≡ true → 0 < length (present slots)
any_count slots e = any_count_from 1 slots e

pub some_on : (f : Seat → Seat) (o : Option Seat) → is_some (option_map f o) ≡ is_some o
some_on f None = refl
some_on f (Some x) = refl

any_changed : (m : ℕ) (f : ℕ → Seat → Seat) (slots : List Slot) → list_any (λ s. is_some s.seat) (reseated_from m (λ n. option_map (f n)) slots) ≡ list_any (λ s. is_some s.seat) slots
any_changed m f [] = refl
any_changed m f (s ∷ slots) = rw (some_on (f m) s.seat, any_changed (suc m) f slots) refl

pub any_each : (f : ℕ → Seat → Seat) (slots : List Slot) → list_any (λ s. is_some s.seat) (each_changed f slots) ≡ list_any (λ s. is_some s.seat) slots
any_each f slots = any_changed 1 f slots

-- ---- the list of the present
abbrev pub Listed : ℕ → List ℕ → Type 0
Listed m [] = ⊥
Listed m (x ∷ xs) = (m ≡ x) ⊎ Listed m xs

listed_and : (n m : ℕ) (o : Option Seat) (rows : List (ℕ × Seat)) → Listed n (map (λ r. r.0) (and_member m o rows)) → ((n ≡ m) × (x : Seat) × (o ≡ Some x)) ⊎ Listed n (map (λ r. r.0) rows)
listed_and n m None rows at = inr at
listed_and n m (Some x) rows (inl is) = inl (is, x, refl)
listed_and n m (Some x) rows (inr at) = inr at

pub listed_from : (n m : ℕ) (slots : List Slot) → Listed n (map (λ r. r.0) (present_from m slots)) → (k : ℕ) × (n ≡ m + k) × (x : Seat) × (seat_in (slice_get slots k) ≡ Some x)
listed_from n m [] at = absurd at
listed_from n m (s ∷ slots) at = elim (listed_and n m s.seat (present_from (suc m) slots) at) [ inl h ↦ (0, omega (arith, h.0), h.1, h.2) | inr h ↦ (let r = listed_from n (suc m) slots h in (suc r.0, omega (arith, r.1), r.2, r.3)) ]

pub listed_present : (slots : List Slot) (member : ℕ) → Listed member (map (λ r. r.0) (present slots)) → (x : Seat) × (seat_of slots member ≡ Some x)
listed_present slots member at =
    let r = listed_from member 1 slots at in
    let is : member ≡ suc r.0 = omega (arith, r.1) in
    (r.2, ap (λ n. seat_of slots n) is ∙ r.3)

numbers_same : (f : ℕ → Seat → Seat) (xs : List (ℕ × Seat)) → map {A = ℕ × Seat} (λ r. r.0) (map (λ r. (r.0, f r.0 r.1)) xs) ≡ map (λ r. r.0) xs
numbers_same f [] = refl
numbers_same f (x ∷ xs) = ap (λ r. x.0 ∷ r) (numbers_same f xs)

pub numbers_each : (f : ℕ → Seat → Seat) (slots : List Slot) → map (λ r. r.0) (present (each_changed f slots)) ≡ map (λ r. r.0) (present slots)
numbers_each f slots = ap (λ xs. map {A = ℕ × Seat} (λ r. r.0) xs) (present_each f slots) ∙ numbers_same f (present slots)

pub length_changed : (m : ℕ) (f : ℕ → Option Seat → Option Seat) (slots : List Slot) → length (reseated_from m f slots) ≡ length slots
length_changed m f [] = refl
length_changed m f (s ∷ slots) = ap (λ n. suc n) (length_changed (suc m) f slots)

pub length_reseated : (f : ℕ → Option Seat → Option Seat) (slots : List Slot) → length (reseated_from 1 f slots) ≡ length slots
length_reseated f slots = length_changed 1 f slots
