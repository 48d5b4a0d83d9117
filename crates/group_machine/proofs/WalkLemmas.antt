-- Walks over slots: rows of those before an index, and seats that are written one by one.
use Rattle.std.proofs.Common.{ℕ, zero, suc, ◌≡◌, ◌+◌, ◌<◌, ◌≤◌, ◌==◌, Bool, true, false, List, [], ◌∷◌, ◌++◌, Option, Some, None, is_some, IsSome, length, map, get_or, slice_get, cond, take, drop, nat_lt, refl, ap, sym, ◌∙◌, arith, inl, inr}
use Rattle.std.proofs.lemmas.Bool.{false≢true, cases_lt}
use Rattle.std.proofs.lemmas.Bool.Decides.{nat_tests}
use Rattle.std.proofs.Math.ListN.{set}
use Rattle.std.specs.Option.{option_map}
use Rattle.bit_planes.specs.PartitionSet.{PartitionSet}
use Rattle.bit_planes.specs.SetRows.{SetRows, members, find_row, with_row, put_row}
use Rattle.sticky_assignor.specs.Assigned.{HaveRows}
use Rattle.bit_planes.proofs.RowLaws.{put_last}
use Rattle.group_machine.specs.declared.group.Slot.{Slot}
use Rattle.group_machine.specs.declared.group.Seat.{Seat}
use Rattle.group_machine.specs.Slots.{seat_in, seat_of, and_member, present_from, present, reseated_from, granted_in}
use Rattle.group_machine.proofs.SlotsLemmas.{slot_with, same_id, other_default}
use Rattle.group_machine.proofs.MovesLemmas.{present_take, append_none}
use Rattle.group_machine.proofs.PresentLemmas.{length_changed}

-- ---- rows of the members before an index
map_append : {A B : Type 0} (f : A → B) (xs ys : List A) → map f (xs ++ ys) ≡ map f xs ++ map f ys
map_append f [] ys = refl
map_append f (x ∷ xs) ys = ap (λ r. f x ∷ r) (map_append f xs ys)

pub present_absent : (slots : List Slot) (i : ℕ) (s : Slot) → i < length slots → s ≡ get_or slots i s → s.seat ≡ None → present (take (i + 1) slots) ≡ present (take i slots)
present_absent slots i s lt e none = present_take slots i s lt e ∙ ap (λ o. present (take i slots) ++ and_member (suc i) o []) none ∙ append_none (present (take i slots))

pub present_one : (slots : List Slot) (i : ℕ) (s : Slot) (x : Seat) → i < length slots → s ≡ get_or slots i s → s.seat ≡ Some x → present (take (i + 1) slots) ≡ present (take i slots) ++ (i + 1, x) ∷ []
present_one slots i s x lt e is =
    let n : suc i ≡ i + 1 = omega arith in
    present_take slots i s lt e ∙ ap (λ o. present (take i slots) ++ and_member (suc i) o []) is ∙ ap (λ (k : ℕ). present (take i slots) ++ (k, x) ∷ []) n

numbers_and : (m b : ℕ) (o : Option Seat) (xs : List (ℕ × Seat)) → m < b → ((j : ℕ) → j < length (map (λ r. r.0) xs) → get_or (map (λ r. r.0) xs) j 0 < b) → (j : ℕ) → j < length (map (λ r. r.0) (and_member m o xs)) → get_or (map (λ r. r.0) (and_member m o xs)) j 0 < b
numbers_and m b None xs lt below j within = below j within
numbers_and m b (Some x) xs lt below zero within = lt
numbers_and m b (Some x) xs lt below (suc j) within = below j (omega arith)

numbers_below : (m b : ℕ) (slots : List Slot) → m + length slots ≤ b → (j : ℕ) → j < length (map (λ r. r.0) (present_from m slots)) → get_or (map (λ r. r.0) (present_from m slots)) j 0 < b
numbers_below m b [] le j within = absurd (omega arith)
numbers_below m b (s ∷ slots) le j within = numbers_and m b s.seat (present_from (suc m) slots) (omega arith) (numbers_below (suc m) b slots (omega arith)) j within

length_front : (slots : List Slot) (i : ℕ) → length (take i slots) ≤ i
length_front [] zero = omega arith
length_front [] (suc i) = omega arith
length_front (s ∷ slots) zero = omega arith
length_front (s ∷ slots) (suc i) = omega (arith, length_front slots i)

pub numbers_mapped : (xs : List (ℕ × Seat)) → map {A = ℕ × PartitionSet} (λ row. row.0) (map (λ m. (m.0, m.1.granted)) xs) ≡ map (λ r. r.0) xs
numbers_mapped [] = refl
numbers_mapped (x ∷ xs) = ap (λ r. x.0 ∷ r) (numbers_mapped xs)

abbrev rows_of : List (ℕ × Seat) → List (ℕ × PartitionSet)
rows_of xs = map (λ m. (m.0, m.1.granted)) xs

pub granted_more : (p : ℕ) (slots : List Slot) (i : ℕ) (s : Slot) (x : Seat) → i < length slots → s ≡ get_or slots i s → s.seat ≡ Some x → with_row (granted_in p (take i slots)) (i + 1) x.granted ≡ granted_in p (take (i + 1) slots)
granted_more p slots i s x lt e is =
    let before : List (ℕ × Seat) = present (take i slots) in
    let last : put_row (rows_of before) (i + 1) x.granted ≡ rows_of before ++ (i + 1, x.granted) ∷ [] =
    put_last (rows_of before) (i + 1) x.granted (λ j within. rw (numbers_mapped before) (numbers_below 1 (i + 1) (take i slots) (omega (arith, length_front slots i)) j (rw (numbers_mapped before) at within))) in
    let all : rows_of (present (take (i + 1) slots)) ≡ rows_of before ++ (i + 1, x.granted) ∷ [] = ap rows_of (present_one slots i s x lt e is) ∙ map_append (λ m. (m.0, m.1.granted)) before ((i + 1, x) ∷ []) in
    ap (λ rows. record { partitions = p; rows = rows }) (last ∙ sym all)

pub granted_same : (p : ℕ) (slots : List Slot) (i : ℕ) (s : Slot) → i < length slots → s ≡ get_or slots i s → s.seat ≡ None → granted_in p (take i slots) ≡ granted_in p (take (i + 1) slots)
granted_same p slots i s lt e none = ap (λ xs. record { partitions = p; rows = rows_of xs }) (sym (present_absent slots i s lt e none))

-- ---- seats that are written one by one
-- the slots, with the seats before an index changed
abbrev pub AreGiven : (ℕ → Option Seat → Option Seat) → List Slot → List Slot → ℕ → Type 0
AreGiven f before now index = (k : ℕ) → slice_get now k ≡ cond (nat_lt k index) (slice_get (reseated_from 1 f before) k) (slice_get before k)

reseated_slot : (m : ℕ) (f : ℕ → Option Seat → Option Seat) (slots : List Slot) (k : ℕ) → slice_get (reseated_from m f slots) k ≡ option_map (λ s. slot_with s.name (f (m + k) s.seat)) (slice_get slots k)
reseated_slot m f [] k = refl
reseated_slot m f (s ∷ slots) zero = let z : m ≡ m + 0 = omega arith in ap (λ n. Some (slot_with s.name (f n s.seat))) z
reseated_slot m f (s ∷ slots) (suc k) = let e : suc m + k ≡ m + suc k = omega arith in reseated_slot (suc m) f slots k ∙ ap (λ n. option_map (λ t. slot_with t.name (f n t.seat)) (slice_get slots k)) e

pub slot_at : (slots : List Slot) (k : ℕ) (s : Slot) → k < length slots → s ≡ get_or slots k s → slice_get slots k ≡ Some s
slot_at [] k s lt e = absurd (omega arith)
slot_at (t ∷ slots) zero s lt e = ap (λ u. Some u) (sym e)
slot_at (t ∷ slots) (suc k) s lt e = slot_at slots k s (omega arith) e

set_here : (slots : List Slot) (k : ℕ) (s : Slot) → k < length slots → slice_get (set slots k s) k ≡ Some s
set_here [] k s lt = absurd (omega arith)
set_here (t ∷ slots) zero s lt = refl
set_here (t ∷ slots) (suc k) s lt = set_here slots k s (omega arith)

set_other : (slots : List Slot) (k j : ℕ) (s : Slot) → (j ≡ k → ⊥) → slice_get (set slots k s) j ≡ slice_get slots j
set_other [] k j s ne = refl
set_other (t ∷ slots) zero zero s ne = absurd (ne refl)
set_other (t ∷ slots) zero (suc j) s ne = refl
set_other (t ∷ slots) (suc k) zero s ne = refl
set_other (t ∷ slots) (suc k) (suc j) s ne = set_other slots k j s (λ e. ne (ap (λ n. suc n) e))

lt_is : (a b : ℕ) → a < b → nat_lt a b ≡ true
lt_is a b lt = grind (arith, nat_tests)

ge_is : (a b : ℕ) → b ≤ a → nat_lt a b ≡ false
ge_is a b le = grind (arith, nat_tests)

given_more : (f : ℕ → Option Seat → Option Seat) (before now after : List Slot) (index : ℕ) → AreGiven f before now index → ((k : ℕ) → (k ≡ index → ⊥) → slice_get after k ≡ slice_get now k) → slice_get after index ≡ slice_get (reseated_from 1 f before) index → AreGiven f before after (index + 1)
given_more f before now after index given others here k = elim (cases_lt k index) [
  | inl lt ↦ others k (λ e. omega (arith, e)) ∙ given k ∙ ap (λ b. cond b (slice_get (reseated_from 1 f before) k) (slice_get before k)) (lt_is k index lt ∙ sym (lt_is k (index + 1) (omega arith)))
  | inr ge ↦ elim (cases_lt index k) [
    | inl gt ↦ others k (λ e. omega (arith, e)) ∙ given k ∙ ap (λ b. cond b (slice_get (reseated_from 1 f before) k) (slice_get before k)) (ge_is k index ge ∙ sym (ge_is k (index + 1) (omega arith)))
    | inr le ↦
        let e : k ≡ index = omega arith in
        ap (λ j. slice_get after j) e ∙ here ∙ ap (λ j. slice_get (reseated_from 1 f before) j) (sym e) ∙ ap (λ b. cond b (slice_get (reseated_from 1 f before) k) (slice_get before k)) (sym (lt_is k (index + 1) (omega arith)))
  ]
]

same_there : (f : ℕ → Option Seat → Option Seat) (before now : List Slot) (index : ℕ) (s : Slot) → AreGiven f before now index → index < length now → s ≡ get_or now index s → slice_get before index ≡ Some s
same_there f before now index s given lt e = sym (given index ∙ ap (λ b. cond b (slice_get (reseated_from 1 f before) index) (slice_get before index)) (ge_is index index (omega arith))) ∙ slot_at now index s lt e

pub changed_there : (f : ℕ → Option Seat → Option Seat) (before : List Slot) (index : ℕ) (s : Slot) → slice_get before index ≡ Some s → slice_get (reseated_from 1 f before) index ≡ Some (slot_with s.name (f (index + 1) s.seat))
changed_there f before index s e = let n : 1 + index ≡ index + 1 = omega arith in reseated_slot 1 f before index ∙ ap (option_map (λ t. slot_with t.name (f (1 + index) t.seat))) e ∙ ap (λ k. Some (slot_with s.name (f k s.seat))) n

pub given_set : (f : ℕ → Option Seat → Option Seat) (before now : List Slot) (index : ℕ) (s : Slot) → AreGiven f before now index → index < length now → s ≡ get_or now index s → AreGiven f before (set now index (slot_with s.name (f (index + 1) s.seat))) (index + 1)
given_set f before now index s given lt e =
    given_more f before now (set now index (slot_with s.name (f (index + 1) s.seat))) index given (λ k ne. set_other now index k (slot_with s.name (f (index + 1) s.seat)) ne)
    (set_here now index (slot_with s.name (f (index + 1) s.seat)) lt ∙ sym (changed_there f before index s (same_there f before now index s given lt e)))

pub given_seat : (f : ℕ → Option Seat → Option Seat) (before now : List Slot) (index : ℕ) (s : Slot) (x : Seat) → AreGiven f before now index → index < length now → s ≡ get_or now index s → s.seat ≡ Some x → seat_of before (suc index) ≡ Some x
given_seat f before now index s x given lt e is = ap seat_in (same_there f before now index s given lt e) ∙ is

same_slots : (xs ys : List Slot) → ((k : ℕ) → slice_get xs k ≡ slice_get ys k) → xs ≡ ys
same_slots [] [] same = refl
same_slots [] (y ∷ ys) same = let h = same 0 in cc
same_slots (x ∷ xs) [] same = let h = same 0 in cc
same_slots (x ∷ xs) (y ∷ ys) same =
    let h : Some x ≡ Some y = same 0 in
    let e : x ≡ y = cc in
    ap (λ s. s ∷ xs) e ∙ ap (λ r. y ∷ r) (same_slots xs ys (λ k. same (suc k)))

past_slots : (slots : List Slot) (k : ℕ) → length slots ≤ k → slice_get slots k ≡ None
past_slots [] k le = refl
past_slots (s ∷ slots) zero le = absurd (omega arith)
past_slots (s ∷ slots) (suc k) le = past_slots slots k (omega arith)

pub given_all : (f : ℕ → Option Seat → Option Seat) (before now : List Slot) (index : ℕ) → AreGiven f before now index → length before ≤ index → now ≡ reseated_from 1 f before
given_all f before now index given le = same_slots now (reseated_from 1 f before) (λ k. elim (cases_lt k index) [
  | inl lt ↦ given k ∙ ap (λ b. cond b (slice_get (reseated_from 1 f before) k) (slice_get before k)) (lt_is k index lt)
  | inr ge ↦ given k ∙ ap (λ b. cond b (slice_get (reseated_from 1 f before) k) (slice_get before k)) (ge_is k index ge) ∙ past_slots before k (omega arith) ∙ sym (past_slots (reseated_from 1 f before) k (omega (arith, length_changed 1 f before)))
])

some_found : (rows : List (ℕ × PartitionSet)) (k d : ℕ) → k < length (map (λ row. row.0) rows) → IsSome (find_row rows (get_or (map (λ row. row.0) rows) k d))
some_found [] k d lt = absurd (omega arith)
some_found (row ∷ rows) zero d lt = rw (same_id row.0) refl
some_found (row ∷ rows) (suc k) d lt = go (row.0 == get_or (map (λ r. r.0) rows) k d) (some_found rows k d (omega arith))
  where
    go : (b : Bool) → IsSome (find_row rows (get_or (map (λ r. r.0) rows) k d)) → IsSome (cond b (Some row.1) (find_row rows (get_or (map (λ r. r.0) rows) k d)))
    go true later = refl
    go false later = later

pub have_rows : (r : SetRows) → HaveRows r (members r)
have_rows r k d lt = some_found r.rows k d lt

some_seat : (o : Option Seat) → is_some o ≡ true → (x : Seat) × (o ≡ Some x)
some_seat None e = absurd (false≢true e)
some_seat (Some x) e = (x, refl)

no_seat : (o : Option Seat) → is_some o ≡ false → o ≡ None
no_seat None e = refl
no_seat (Some x) e = absurd (false≢true (sym e))

pub given_set_at : (f : ℕ → Option Seat → Option Seat) (before now : List Slot) (index : ℕ) (d : Slot) (new : Option Seat) → AreGiven f before now index → index < length now → new ≡ f (index + 1) (get_or now index d).seat → AreGiven f before (set now index (slot_with (get_or now index d).name new)) (index + 1)
given_set_at f before now index d new given lt e = rw e (given_set f before now index (get_or now index d) given lt (other_default now index d (get_or now index d) lt))

pub given_seat_at : (f : ℕ → Option Seat → Option Seat) (before now : List Slot) (index : ℕ) (d : Slot) (x : Seat) → AreGiven f before now index → index < length now → (get_or now index d).seat ≡ Some x → seat_of before (suc index) ≡ Some x
given_seat_at f before now index d x given lt is = given_seat f before now index (get_or now index d) x given lt (other_default now index d (get_or now index d) lt) is

-- ---- the members from an index on
drop_from : (m : ℕ) (slots : List Slot) (i : ℕ) (s : Slot) → i < length slots → s ≡ get_or slots i s → present_from m (drop i slots) ≡ and_member m s.seat (present_from (suc m) (drop (suc i) slots))
drop_from m [] i s lt e = absurd (omega arith)
drop_from m (t ∷ slots) zero s lt e = ap (λ u. and_member m u.seat (present_from (suc m) slots)) (sym e)
drop_from m (t ∷ slots) (suc i) s lt e = drop_from m slots i s (omega arith) e

pub present_drop : (slots : List Slot) (i : ℕ) (s : Slot) → i < length slots → s ≡ get_or slots i s → present_from (i + 1) (drop i slots) ≡ and_member (i + 1) s.seat (present_from (i + 1 + 1) (drop (i + 1) slots))
present_drop slots i s lt e =
    let n : suc (i + 1) ≡ i + 1 + 1 = omega arith in
    let k : suc i ≡ i + 1 = omega arith in
    drop_from (i + 1) slots i s lt e ∙ ap (λ j. and_member (i + 1) s.seat (present_from j (drop (suc i) slots))) n ∙ ap (λ j. and_member (i + 1) s.seat (present_from (i + 1 + 1) (drop j slots))) k

pub numbers_drop_here : (slots : List Slot) (i : ℕ) (s : Slot) → i < length slots → s ≡ get_or slots i s → is_some s.seat ≡ true → map (λ r. r.0) (present_from (i + 1) (drop i slots)) ≡ (i + 1) ∷ map (λ r. r.0) (present_from (i + 1 + 1) (drop (i + 1) slots))
numbers_drop_here slots i s lt e here = let x = some_seat s.seat here in ap (λ xs. map {A = ℕ × Seat} (λ r. r.0) xs) (present_drop slots i s lt e ∙ ap (λ o. and_member (i + 1) o (present_from (i + 1 + 1) (drop (i + 1) slots))) x.1)

pub numbers_drop_gone : (slots : List Slot) (i : ℕ) (s : Slot) → i < length slots → s ≡ get_or slots i s → is_some s.seat ≡ false → map (λ r. r.0) (present_from (i + 1) (drop i slots)) ≡ map (λ r. r.0) (present_from (i + 1 + 1) (drop (i + 1) slots))
numbers_drop_gone slots i s lt e gone = ap (λ xs. map {A = ℕ × Seat} (λ r. r.0) xs) (present_drop slots i s lt e ∙ ap (λ o. and_member (i + 1) o (present_from (i + 1 + 1) (drop (i + 1) slots))) (no_seat s.seat gone))

pub drop_past : (slots : List Slot) (i : ℕ) → length slots ≤ i → drop i slots ≡ []
drop_past [] zero le = refl
drop_past [] (suc i) le = refl
drop_past (s ∷ slots) zero le = absurd (omega arith)
drop_past (s ∷ slots) (suc i) le = drop_past slots i (omega arith)

pub numbers_drop_past : (slots : List Slot) (m i : ℕ) → length slots ≤ i → map {A = ℕ × Seat} (λ r. r.0) (present_from m (drop i slots)) ≡ []
numbers_drop_past slots m i le = ap (λ rest. map {A = ℕ × Seat} (λ r. r.0) (present_from m rest)) (drop_past slots i le)
