-- What a step is to change: the walks over the slots that it will leave.
use Rattle.std.proofs.Common.{ℕ, zero, suc, ◌≡◌, ◌+◌, ◌<◌, ◌≤◌, ◌==◌, Bool, true, false, ◌&&◌, ◌||◌, List, [], ◌∷◌, ◌++◌, Option, Some, None, is_some, length, get_or, slice_get, cond, take, drop, refl, ap, sym, ◌∙◌, arith}
use Rattle.std.proofs.lemmas.List.Folds.{list_all-append, list_any-append}
use Rattle.std.proofs.Math.Seq.{drop-cons}
use Rattle.std.specs.List.{list_all}
use Rattle.std.specs.Option.{option_map, option_map_or}
use Rattle.bit_planes.specs.PartitionSet.{partitions_of, empty_set}
use Rattle.bit_planes.specs.SetRows.{with_row}
use Rattle.group_machine.specs.declared.group.Slot.{Slot}
use Rattle.group_machine.specs.declared.group.Seat.{Seat}
use Rattle.group_machine.specs.declared.group.change.Change.{Change}
use Rattle.group_machine.specs.declared.group.change.Change.TheVariants.{Joins, Rejoins, Leaves}
use Rattle.group_machine.specs.Slots.{only_of, reseated_from, present, granted_in, is_ready_in, is_anybody_in}
use Rattle.group_machine.specs.Steps.{newcomer, rejoined_seat}
use Rattle.group_machine.specs.Private.Walks.{AreSeatsOver, IsSeatOver}
use Rattle.group_machine.specs.Private.Changes.{seat_after, slots_after}
use Rattle.group_machine.proofs.SlotsLemmas.{slot_with, same_id, reseated_not, seat_of_index}
use Rattle.group_machine.proofs.PresentLemmas.{length_reseated}
use Rattle.group_machine.proofs.WalkLemmas.{slot_at, changed_there, granted_more, granted_same, drop_past}
use Rattle.group_machine.proofs.TableLemmas.{all_present}

-- ---- readiness
abbrev pub starts : Change → Bool
starts Joins = true
starts (Rejoins member) = false
starts (Leaves member) = false

abbrev pub each_joined : List Slot → Bool
each_joined slots = list_all (λ s. option_map_or (λ x. x.joined) s.seat true) slots

abbrev pub mid : Change → List Slot → List Slot
mid change slots = reseated_from 1 (seat_after change) slots

get_of : (slots : List Slot) (k : ℕ) (s : Slot) → slice_get slots k ≡ Some s → s ≡ get_or slots k s
get_of [] k s e = cc
get_of (t ∷ slots) zero s e = let same : t ≡ s = cc in sym same
get_of (t ∷ slots) (suc k) s e = get_of slots k s e

abbrev pub slot_after : Change → ℕ → Slot → Slot
slot_after change i s = slot_with s.name (seat_after change (i + 1) s.seat)

pub mid_at : (change : Change) (slots : List Slot) (i : ℕ) (s : Slot) → i < length slots → s ≡ get_or slots i s → slot_after change i s ≡ get_or (mid change slots) i (slot_after change i s)
mid_at change slots i s lt e = get_of (mid change slots) i (slot_after change i s) (changed_there (seat_after change) slots i s (slot_at slots i s lt e))

pub mid_long : (change : Change) (slots : List Slot) (i : ℕ) → i < length slots → i < length (mid change slots)
mid_long change slots i lt = omega (arith, length_reseated (seat_after change) slots)

mid_drop : (change : Change) (slots : List Slot) (i : ℕ) (s : Slot) → i < length slots → s ≡ get_or slots i s → drop i (mid change slots) ≡ slot_after change i s ∷ drop (i + 1) (mid change slots)
mid_drop change slots i s lt e =
    let n : suc i ≡ i + 1 = omega arith in
    drop-cons (mid change slots) i (slot_after change i s) (mid_long change slots i lt)
    ∙ ap (λ t. t ∷ drop (suc i) (mid change slots)) (sym (mid_at change slots i s lt e))
    ∙ ap (λ k. slot_after change i s ∷ drop k (mid change slots)) n

or_true : (a b : Bool) → (a || (true || b)) ≡ true
or_true true b = refl
or_true false b = refl

some_seat : (o : Option Seat) (j : Bool) → option_map (λ x. x.joined) o ≡ Some j → (is_some o ≡ true) × (option_map_or (λ x. x.joined) o true ≡ j)
some_seat None j e = cc
some_seat (Some x) j e = (refl, cc)

no_seat : (o : Option Seat) → option_map (λ x. x.joined) o ≡ None → o ≡ None
no_seat None e = refl
no_seat (Some x) e = cc

pub any_more : (change : Change) (slots : List Slot) (i : ℕ) (s : Slot) (before : Bool) → i < length slots → s ≡ get_or slots i s → option_map (λ x. x.joined) (seat_after change (i + 1) s.seat) ≡ Some true
    → (before || is_anybody_in (drop i (mid change slots))) ≡ (true || is_anybody_in (drop (i + 1) (mid change slots)))
any_more change slots i s before lt e is =
    ap (λ r. before || is_anybody_in r) (mid_drop change slots i s lt e)
    ∙ ap (λ b. before || (b || is_anybody_in (drop (i + 1) (mid change slots)))) ((some_seat (seat_after change (i + 1) s.seat) true is).0)
    ∙ or_true before (is_anybody_in (drop (i + 1) (mid change slots)))

pub all_more : (change : Change) (slots : List Slot) (i : ℕ) (s : Slot) (j : Bool) → i < length slots → s ≡ get_or slots i s → option_map (λ x. x.joined) (seat_after change (i + 1) s.seat) ≡ Some j
    → each_joined (drop i (mid change slots)) ≡ (j && each_joined (drop (i + 1) (mid change slots)))
all_more change slots i s j lt e is =
    ap each_joined (mid_drop change slots i s lt e)
    ∙ ap (λ b. b && each_joined (drop (i + 1) (mid change slots))) ((some_seat (seat_after change (i + 1) s.seat) j is).1)

pub any_same : (change : Change) (slots : List Slot) (i : ℕ) (s : Slot) → i < length slots → s ≡ get_or slots i s → option_map (λ x. x.joined) (seat_after change (i + 1) s.seat) ≡ None
    → is_anybody_in (drop i (mid change slots)) ≡ is_anybody_in (drop (i + 1) (mid change slots))
any_same change slots i s lt e none =
    ap is_anybody_in (mid_drop change slots i s lt e)
    ∙ ap (λ o. is_some o || is_anybody_in (drop (i + 1) (mid change slots))) (no_seat (seat_after change (i + 1) s.seat) none)

pub all_same : (change : Change) (slots : List Slot) (i : ℕ) (s : Slot) → i < length slots → s ≡ get_or slots i s → option_map (λ x. x.joined) (seat_after change (i + 1) s.seat) ≡ None
    → each_joined (drop i (mid change slots)) ≡ each_joined (drop (i + 1) (mid change slots))
all_same change slots i s lt e none =
    ap each_joined (mid_drop change slots i s lt e)
    ∙ ap (λ o. option_map_or (λ x. x.joined) o true && each_joined (drop (i + 1) (mid change slots))) (no_seat (seat_after change (i + 1) s.seat) none)

and_true : (b : Bool) → (b && true) ≡ b
and_true true = refl
and_true false = refl

and_false : (b : Bool) → (b && false) ≡ false
and_false true = refl
and_false false = refl

or_last : (b : Bool) → (b || true) ≡ true
or_last true = refl
or_last false = refl

or_none : (b : Bool) → (b || false) ≡ b
or_none true = refl
or_none false = refl

pub ready_is : (p : ℕ) (name : List ℕ) (change : Change) (slots : List Slot) → ((starts change || is_anybody_in (mid change slots)) && each_joined (mid change slots)) ≡ is_ready_in (slots_after p name change slots)
ready_is p name Joins slots =
    let after : List Slot = slots ++ newcomer p name ∷ [] in
    let any : is_anybody_in after ≡ true = list_any-append (λ s. is_some s.seat) slots (newcomer p name ∷ []) ∙ or_last (is_anybody_in slots) in
    let all : each_joined after ≡ each_joined slots = list_all-append (λ s. option_map_or (λ x. x.joined) s.seat true) slots (newcomer p name ∷ []) ∙ and_true (each_joined slots) in
    ap each_joined (reseated_not 1 slots) ∙ sym all ∙ all_present (λ x. x.joined) after ∙ ap (λ b. b && list_all (λ m. m.1.joined) (present after)) (sym any)
ready_is p name (Rejoins member) slots = ap (λ b. is_anybody_in (mid (Rejoins member) slots) && b) (all_present (λ x. x.joined) (mid (Rejoins member) slots))
ready_is p name (Leaves member) slots = ap (λ b. is_anybody_in (mid (Leaves member) slots) && b) (all_present (λ x. x.joined) (mid (Leaves member) slots))

pub ready_end : (p : ℕ) (name : List ℕ) (change : Change) (slots : List Slot) (i : ℕ) (anybody : Bool) → length slots ≤ i
    → (starts change || is_anybody_in (mid change slots)) ≡ (anybody || is_anybody_in (drop i (mid change slots))) → each_joined (mid change slots) ≡ each_joined (drop i (mid change slots))
    → anybody ≡ is_ready_in (slots_after p name change slots)
ready_end p name change slots i anybody le some all =
    let none : drop i (mid change slots) ≡ [] = drop_past (mid change slots) i (omega (arith, length_reseated (seat_after change) slots)) in
    let any : (starts change || is_anybody_in (mid change slots)) ≡ anybody = some ∙ ap (λ r. anybody || is_anybody_in r) none ∙ or_none anybody in
    let each : each_joined (mid change slots) ≡ true = all ∙ ap each_joined none in
    sym (ap (λ b. b && each_joined (mid change slots)) any ∙ ap (λ b. anybody && b) each ∙ and_true anybody) ∙ ready_is p name change slots

pub ready_not : (p : ℕ) (name : List ℕ) (change : Change) (slots : List Slot) → each_joined (mid change slots) ≡ false → false ≡ is_ready_in (slots_after p name change slots)
ready_not p name change slots all = sym (ap (λ b. (starts change || is_anybody_in (mid change slots)) && b) all ∙ and_false (starts change || is_anybody_in (mid change slots))) ∙ ready_is p name change slots

-- ---- what members are granted after a change
only_over : (p member m : ℕ) (f : Option Seat → Option Seat) (o : Option Seat) → ((y : Seat) → o ≡ Some y → IsSeatOver p y) → ((y : Seat) → f o ≡ Some y → IsSeatOver p y) → (x : Seat) → only_of member f m o ≡ Some x → IsSeatOver p x
only_over p member m f o over changed x is = go (m == member) is
  where
    go : (b : Bool) → cond b (f o) o ≡ Some x → IsSeatOver p x
    go true h = changed x h
    go false h = over x h

rejoined_over : (p : ℕ) (o : Option Seat) → ((y : Seat) → o ≡ Some y → IsSeatOver p y) → (x : Seat) → option_map rejoined_seat o ≡ Some x → IsSeatOver p x
rejoined_over p None over x is = cc
rejoined_over p (Some y) over x is =
    let same : rejoined_seat y ≡ x = cc in
    let own = over y refl in
    record { granted = ap (λ z. partitions_of z.granted) (sym same) ∙ own.assigned; assigned = ap (λ z. partitions_of z.assigned) (sym same) ∙ own.assigned }

seat_over : (p : ℕ) (change : Change) (m : ℕ) (o : Option Seat) → ((y : Seat) → o ≡ Some y → IsSeatOver p y) → (x : Seat) → seat_after change m o ≡ Some x → IsSeatOver p x
seat_over p Joins m o over x is = over x is
seat_over p (Rejoins member) m o over x is = only_over p member m (option_map rejoined_seat) o over (rejoined_over p o over) x is
seat_over p (Leaves member) m o over x is = only_over p member m (λ before. None) o over (λ y h. cc) x is

pub granted_over : (p : ℕ) (change : Change) (slots : List Slot) (i : ℕ) (s : Slot) (x : Seat) → AreSeatsOver p slots → i < length slots → s ≡ get_or slots i s → seat_after change (i + 1) s.seat ≡ Some x → partitions_of x.granted ≡ p
granted_over p change slots i s x over lt e is = (seat_over p change (i + 1) s.seat (λ y h. over (suc i) y (seat_of_index slots i s y lt e h)) x is).granted

pub rows_more : (p : ℕ) (change : Change) (slots : List Slot) (i : ℕ) (s : Slot) (x : Seat) → i < length slots → s ≡ get_or slots i s → seat_after change (i + 1) s.seat ≡ Some x → with_row (granted_in p (take i (mid change slots))) (i + 1) x.granted ≡ granted_in p (take (i + 1) (mid change slots))
rows_more p change slots i s x lt e is = granted_more p (mid change slots) i (slot_after change i s) x (mid_long change slots i lt) (mid_at change slots i s lt e) is

pub rows_same : (p : ℕ) (change : Change) (slots : List Slot) (i : ℕ) (s : Slot) → i < length slots → s ≡ get_or slots i s → seat_after change (i + 1) s.seat ≡ None → granted_in p (take i (mid change slots)) ≡ granted_in p (take (i + 1) (mid change slots))
rows_same p change slots i s lt e none = granted_same p (mid change slots) i (slot_after change i s) (mid_long change slots i lt) (mid_at change slots i s lt e) none

take_all : (slots : List Slot) (i : ℕ) → length slots ≤ i → take i slots ≡ slots
take_all [] zero le = refl
take_all [] (suc i) le = refl
take_all (s ∷ slots) zero le = absurd (omega arith)
take_all (s ∷ slots) (suc i) le = ap (λ r. s ∷ r) (take_all slots i (omega arith))

take_front : (xs ys : List Slot) → take (length xs) (xs ++ ys) ≡ xs
take_front [] ys = refl
take_front (x ∷ xs) ys = ap (λ r. x ∷ r) (take_front xs ys)

last_at : (slots : List Slot) (s : Slot) → s ≡ get_or (slots ++ s ∷ []) (length slots) s
last_at [] s = refl
last_at (t ∷ slots) s = last_at slots s

length_more : (slots : List Slot) (s : Slot) → length (slots ++ s ∷ []) ≡ length slots + 1
length_more [] s = refl
length_more (t ∷ slots) s = omega (arith, length_more slots s)

mid_all : (change : Change) (slots : List Slot) (i : ℕ) → length slots ≤ i → take i (mid change slots) ≡ mid change slots
mid_all change slots i le = take_all (mid change slots) i (omega (arith, length_reseated (seat_after change) slots))

pub rows_newcomer : (p : ℕ) (name : List ℕ) (slots : List Slot) (i : ℕ) → length slots ≤ i → with_row (granted_in p (take i (mid Joins slots))) (length slots + 1) (empty_set p) ≡ granted_in p (slots ++ newcomer p name ∷ [])
rows_newcomer p name slots i le =
    let all : List Slot = slots ++ newcomer p name ∷ [] in
    let new : Seat = record { joined = true; synced = false; is_static = false; granted = empty_set p; assigned = empty_set p } in
    let front : take i (mid Joins slots) ≡ take (length slots) all = mid_all Joins slots i le ∙ reseated_not 1 slots ∙ sym (take_front slots (newcomer p name ∷ [])) in
    ap (λ r. with_row (granted_in p r) (length slots + 1) (empty_set p)) front
    ∙ granted_more p all (length slots) (newcomer p name) new (omega (arith, length_more slots (newcomer p name))) (last_at slots (newcomer p name)) refl
    ∙ ap (granted_in p) (take_all all (length slots + 1) (omega (arith, length_more slots (newcomer p name))))

pub rows_joined : (p : ℕ) (name : List ℕ) (change : Change) (slots : List Slot) (i : ℕ) → change ≡ Joins → length slots ≤ i → with_row (granted_in p (take i (mid change slots))) (length slots + 1) (empty_set p) ≡ granted_in p (slots_after p name change slots)
rows_joined p name change slots i is le =
    ap (λ ch. with_row (granted_in p (take i (mid ch slots))) (length slots + 1) (empty_set p)) is
    ∙ rows_newcomer p name slots i le
    ∙ ap (λ ch. granted_in p (slots_after p name ch slots)) (sym is)

pub rows_all : (p : ℕ) (name : List ℕ) (change : Change) (slots : List Slot) (i : ℕ) → (change ≡ Joins → ⊥) → length slots ≤ i → granted_in p (take i (mid change slots)) ≡ granted_in p (slots_after p name change slots)
rows_all p name Joins slots i not le = absurd (not refl)
rows_all p name (Rejoins member) slots i not le = ap (granted_in p) (mid_all (Rejoins member) slots i le)
rows_all p name (Leaves member) slots i not le = ap (granted_in p) (mid_all (Leaves member) slots i le)

pub rejoined_here : (change : Change) (changed member : ℕ) (o : Option Seat) (x : Seat) → change ≡ Rejoins changed → changed ≡ member → o ≡ Some x → seat_after change member o ≡ Some (rejoined_seat x)
rejoined_here change changed member o x is same at =
    ap (λ ch. seat_after ch member o) is ∙ ap (λ n. only_of n (option_map rejoined_seat) member o) same ∙ ap (only_of member (option_map rejoined_seat) member) at
    ∙ ap (λ b. cond b (Some (rejoined_seat x)) (Some x)) (same_id member)
