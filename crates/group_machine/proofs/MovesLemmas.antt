-- Who takes each partition, and the moves.
use Rattle.std.proofs.Common.{ℕ, zero, suc, ◌≡◌, ◌+◌, ◌<◌, Bool, true, false, ◌&&◌, not, List, [], ◌∷◌, ◌++◌, Option, Some, None, length, get_or, cond, take, find, filter_map, refl, ap, sym, ◌∙◌, arith}
use Rattle.std.proofs.lemmas.List.Folds.{find-append}
use Rattle.std.specs.List.{range_with_len, cons_option}
use Rattle.std.specs.Option.{option_map, option_or}
use Rattle.bit_planes.specs.PartitionSet.{PartitionSet, is_in}
use Rattle.bit_planes.specs.SetRows.{SetRows, set_of, row_of, set_or_empty}
use Rattle.bit_planes.proofs.Sets.{both_true, in_empty}
use Rattle.group_machine.specs.Moves.{taker_in}
use Rattle.group_machine.specs.declared.group.Slot.{Slot}
use Rattle.group_machine.specs.declared.group.Seat.{Seat}
use Rattle.group_machine.specs.declared.group.Move.{Move}
use Rattle.group_machine.specs.Slots.{and_member, present_from, present}
use Rattle.coop_rebalance.proofs.Items.{items_more}

range_suc : (a n : ℕ) → range_with_len a (suc n) ≡ range_with_len a n ++ (a + n) ∷ []
range_suc a zero = let e : a ≡ a + 0 = omega arith in ap (λ k. k ∷ []) e
range_suc a (suc n) = ap (λ r. a ∷ r) (range_suc (a + 1) n ∙ ap (λ k. range_with_len (a + 1) n ++ k ∷ []) e)
  where
    e : (a + 1) + n ≡ a + suc n
    e = omega arith

pub range_more : (n : ℕ) → range_with_len 0 (n + 1) ≡ range_with_len 0 n ++ n ∷ []
range_more n =
    let e : n + 1 ≡ suc n = omega arith in
    let z : 0 + n ≡ n = omega arith in
    rw e (range_suc 0 n ∙ ap (λ k. range_with_len 0 n ++ k ∷ []) z)

cons_append : {A : Type 0} (o : Option A) (xs ys : List A) → cons_option o xs ++ ys ≡ cons_option o (xs ++ ys)
cons_append None xs ys = refl
cons_append (Some x) xs ys = refl

mapped_append : {A B : Type 0} (h : A → Option B) (xs ys : List A) → filter_map h (xs ++ ys) ≡ filter_map h xs ++ filter_map h ys
mapped_append h [] ys = refl
mapped_append h (x ∷ xs) ys = ap (λ r. cons_option (h x) r) (mapped_append h xs ys) ∙ sym (cons_append (h x) (filter_map h xs) (filter_map h ys))

pub append_none : {A : Type 0} (xs : List A) → xs ++ [] ≡ xs
append_none [] = refl
append_none (x ∷ xs) = ap (λ r. x ∷ r) (append_none xs)

pub moves_more : (f : ℕ → Option Move) (moves : List Move) (at : ℕ) (m : Move) → moves ≡ filter_map f (range_with_len 0 at) → f at ≡ Some m → moves ++ m ∷ [] ≡ filter_map f (range_with_len 0 (at + 1))
moves_more f moves at m so_far e = ap (λ ms. ms ++ m ∷ []) so_far ∙ sym (ap (filter_map f) (range_more at) ∙ mapped_append f (range_with_len 0 at) (at ∷ []) ∙ ap (λ o. filter_map f (range_with_len 0 at) ++ cons_option o []) e)

pub moves_same : (f : ℕ → Option Move) (moves : List Move) (at : ℕ) → moves ≡ filter_map f (range_with_len 0 at) → f at ≡ None → moves ≡ filter_map f (range_with_len 0 (at + 1))
moves_same f moves at so_far e = so_far ∙ sym (ap (filter_map f) (range_more at) ∙ mapped_append f (range_with_len 0 at) (at ∷ []) ∙ ap (λ o. filter_map f (range_with_len 0 at) ++ cons_option o []) e ∙ append_none (filter_map f (range_with_len 0 at)))

and_more : (m : ℕ) (o : Option Seat) (xs ys : List (ℕ × Seat)) → and_member m o (xs ++ ys) ≡ and_member m o xs ++ ys
and_more m None xs ys = refl
and_more m (Some x) xs ys = refl

present_more : (m : ℕ) (slots : List Slot) (i : ℕ) (s : Slot) → i < length slots → s ≡ get_or slots i s → present_from m (take (suc i) slots) ≡ present_from m (take i slots) ++ and_member (m + i) s.seat []
present_more m [] i s lt e = absurd (omega arith)
present_more m (t ∷ slots) zero s lt e = let z : m + 0 ≡ m = omega arith in rw (z, e) refl
present_more m (t ∷ slots) (suc i) s lt e =
    let n : suc m + i ≡ m + suc i = omega arith in
    ap (λ r. and_member m t.seat r) (present_more (suc m) slots i s (omega arith) e)
    ∙ and_more m t.seat (present_from (suc m) (take i slots)) (and_member (suc m + i) s.seat [])
    ∙ ap (λ k. and_member m t.seat (present_from (suc m) (take i slots)) ++ and_member k s.seat []) n

pub present_take : (slots : List Slot) (i : ℕ) (s : Slot) → i < length slots → s ≡ get_or slots i s → present (take (i + 1) slots) ≡ present (take i slots) ++ and_member (suc i) s.seat []
present_take slots i s lt e =
    let n : i + 1 ≡ suc i = omega arith in
    let k : 1 + i ≡ suc i = omega arith in
    rw n (present_more 1 slots i s lt e ∙ ap (λ j. present (take i slots) ++ and_member j s.seat []) k)

abbrev Rows : Type 0
Rows = List (ℕ × PartitionSet)

abbrev takes_row : SetRows → ℕ → (ℕ × PartitionSet) → Bool
takes_row next q row = is_in (set_of next row.0) q && not (is_in row.1 q)

first_or : (a b : Option (ℕ × PartitionSet)) → option_map (λ m. m.0) (option_or a b) ≡ option_or (option_map (λ m. m.0) a) (option_map (λ m. m.0) b)
first_or None b = refl
first_or (Some x) b = refl

taker_more : (rows : Rows) (row : ℕ × PartitionSet) (next : SetRows) (q : ℕ) → taker_in (rows ++ row ∷ []) next q ≡ option_or (taker_in rows next q) (taker_in (row ∷ []) next q)
taker_more rows row next q = ap (option_map (λ m. m.0)) (find-append (takes_row next q) rows (row ∷ [])) ∙ first_or (find (takes_row next q) rows) (find (takes_row next q) (row ∷ []))

or_none : {A : Type 0} (o : Option A) → o ≡ option_or o None
or_none None = refl
or_none (Some x) = refl

found_taker : (next : SetRows) (q : ℕ) (rows : Rows) (n : ℕ) → taker_in rows next q ≡ Some n → is_in (set_of next n) q ≡ true
found_taker next q [] n e = cc
found_taker next q (row ∷ rows) n e = go (λ h. found_taker next q rows n h) (takes_row next q row) refl e
  where
    go : (taker_in rows next q ≡ Some n → is_in (set_of next n) q ≡ true) → (b : Bool) → takes_row next q row ≡ b → option_map (λ (m : ℕ × PartitionSet). m.0) (cond b (Some row) (find (takes_row next q) rows)) ≡ Some n → is_in (set_of next n) q ≡ true
    go later true is h =
        let same : row.0 ≡ n = cc in
        ap (λ k. is_in (set_of next k) q) (sym same) ∙ (both_true (is_in (set_of next row.0) q) (not (is_in row.1 q)) is).0
    go later false is h = later h

taker_row : (rows : Rows) (row : ℕ × PartitionSet) (next : SetRows) (q : ℕ) → ((m n : ℕ) → is_in (set_of next m) q ≡ true → is_in (set_of next n) q ≡ true → m ≡ n)
    → cond (takes_row next q row) (Some row.0) (taker_in rows next q) ≡ taker_in (rows ++ row ∷ []) next q
taker_row rows row next q disjoint = go (takes_row next q row) refl (taker_in rows next q) refl ∙ sym (taker_more rows row next q)
  where
    go : (b : Bool) → takes_row next q row ≡ b → (old : Option ℕ) → taker_in rows next q ≡ old → cond (takes_row next q row) (Some row.0) (taker_in rows next q) ≡ option_or (taker_in rows next q) (option_map (λ (m : ℕ × PartitionSet). m.0) (cond (takes_row next q row) (Some row) None))
    go false t old was = rw t (or_none (taker_in rows next q))
    go true t None was = rw (t, was) refl
    go true t (Some n) was =
        let own : is_in (set_of next row.0) q ≡ true = (both_true (is_in (set_of next row.0) q) (not (is_in row.1 q)) t).0 in
        let same : row.0 ≡ n = disjoint row.0 n own (found_taker next q rows n was) in
        rw (t, was) (ap (λ k. Some k) same)

pub taker_given : (items : Rows) (i : ℕ) (row : ℕ × PartitionSet) (next : SetRows) (q : ℕ) (given added : PartitionSet) (old new : Option ℕ) → i < length items → row ≡ get_or items i row
    → ((m n : ℕ) → is_in (set_of next m) q ≡ true → is_in (set_of next n) q ≡ true → m ≡ n)
    → row_of next row.0 ≡ Some given → is_in added q ≡ (is_in given q && not (is_in row.1 q)) → old ≡ taker_in (take i items) next q → new ≡ cond (is_in added q) (Some row.0) old
    → new ≡ taker_in (take (i + 1) items) next q
taker_given items i row next q given added old new lt at disjoint found adds was now =
    let same : given ≡ set_of next row.0 = ap (set_or_empty next.partitions) (sym found) in
    let takes : is_in added q ≡ takes_row next q row = adds ∙ ap (λ t. is_in t q && not (is_in row.1 q)) same in
    now ∙ ap (λ b. cond b (Some row.0) old) takes ∙ ap (λ o. cond (takes_row next q row) (Some row.0) o) was ∙ taker_row (take i items) row next q disjoint
    ∙ ap (λ rows. taker_in rows next q) (sym (items_more items i row lt at))

pub taker_rowless : (items : Rows) (i : ℕ) (row : ℕ × PartitionSet) (next : SetRows) (q : ℕ) (old : Option ℕ) → i < length items → row ≡ get_or items i row
    → ((m n : ℕ) → is_in (set_of next m) q ≡ true → is_in (set_of next n) q ≡ true → m ≡ n)
    → row_of next row.0 ≡ None → old ≡ taker_in (take i items) next q → old ≡ taker_in (take (i + 1) items) next q
taker_rowless items i row next q old lt at disjoint none was =
    let out : is_in (set_of next row.0) q ≡ false = ap (λ o. is_in (set_or_empty next.partitions o) q) none ∙ in_empty next.partitions q in
    let takes : takes_row next q row ≡ false = ap (λ b. b && not (is_in row.1 q)) out in
    was ∙ ap (λ b. cond b (Some row.0) (taker_in (take i items) next q)) (sym takes) ∙ taker_row (take i items) row next q disjoint
    ∙ ap (λ rows. taker_in rows next q) (sym (items_more items i row lt at))
