-- One member takes a partition, and whoever is granted one is its last holder.
use Rattle.std.proofs.Common.{ℕ, suc, length, map, ◌+◌, ◌&&◌, slice_get, ◌≡◌, ◌<◌, Bool, true, false, not, ◌⊎◌, inl, inr, List, [], ◌∷◌, Option, Some, None, find, cond, refl, ap, sym, ◌∙◌, arith}
use Rattle.std.specs.Prelude.{slice_index_or}
use Rattle.std.specs.Option.{option_map, option_or}
use Rattle.std.proofs.lemmas.Bool.{false≢true}
use Rattle.std.proofs.lemmas.List.FromFn.{get_or-map-range_with_len}
use Rattle.bit_planes.specs.PartitionSet.{PartitionSet, is_in}
use Rattle.bit_planes.specs.SetRows.{SetRows, set_of}
use Rattle.bit_planes.proofs.Sets.{both_true}
use Rattle.group_machine.specs.declared.group.Slot.{Slot}
use Rattle.group_machine.specs.declared.group.Seat.{Seat}
use Rattle.group_machine.specs.Slots.{seat_in, and_member, present_from, present}
use Rattle.group_machine.specs.State.{GroupState, members, seat_granted, granted_of, last_holder}
use Rattle.group_machine.specs.Moves.{takes, taker_in, taker, takers, last_after}
use Rattle.group_machine.proofs.PresentLemmas.{Listed}

find_says : (p : ℕ → Bool) (ms : List ℕ) (n : ℕ) → find p ms ≡ Some n → p n ≡ true
find_says p [] n e = cc
find_says p (x ∷ ms) n e = go (λ h. find_says p ms n h) (p x) refl e
  where
    go : (find p ms ≡ Some n → p n ≡ true) → (b : Bool) → p x ≡ b → cond b (Some x) (find p ms) ≡ Some n → p n ≡ true
    go later true is h = let same : x ≡ n = cc in ap p (sym same) ∙ is
    go later false is h = later h

find_some : (p : ℕ → Bool) (ms : List ℕ) (m : ℕ) → Listed m ms → p m ≡ true → (n : ℕ) × (find p ms ≡ Some n) × (p n ≡ true)
find_some p [] m at e = absurd at
find_some p (x ∷ ms) m (inl same) e = let here : p x ≡ true = ap p (sym same) ∙ e in (x, rw here refl, here)
find_some p (x ∷ ms) m (inr at) e = go (find_some p ms m at e) (p x) refl
  where
    go : (n : ℕ) × (find p ms ≡ Some n) × (p n ≡ true) → (b : Bool) → p x ≡ b → (n : ℕ) × (cond (p x) (Some x) (find p ms) ≡ Some n) × (p n ≡ true)
    go later true is = (x, rw is refl, is)
    go later false is = (later.0, rw is later.1, later.2)

find_and : (p : (ℕ × Seat) → Bool) (t : ℕ → Bool) (m : ℕ) (o : Option Seat) (xs : List (ℕ × Seat)) → ((x : Seat) → o ≡ Some x → p (m, x) ≡ t m) → option_map (λ r. r.0) (find p xs) ≡ find t (map (λ r. r.0) xs) → option_map (λ r. r.0) (find p (and_member m o xs)) ≡ find t (map (λ r. r.0) (and_member m o xs))
find_and p t m None xs here rest = rest
find_and p t m (Some x) xs here rest = rw (here x refl) (go (t m))
  where
    go : (b : Bool) → option_map (λ (r : ℕ × Seat). r.0) (cond b (Some (m, x)) (find p xs)) ≡ cond b (Some m) (find t (map (λ r. r.0) xs))
    go true = refl
    go false = rest

find_from : (p : (ℕ × Seat) → Bool) (t : ℕ → Bool) (m : ℕ) (slots : List Slot) → ((k : ℕ) (x : Seat) → seat_in (slice_get slots k) ≡ Some x → p (m + k, x) ≡ t (m + k)) → option_map (λ r. r.0) (find p (present_from m slots)) ≡ find t (map (λ r. r.0) (present_from m slots))
find_from p t m [] same = refl
find_from p t m (s ∷ slots) same =
    let z : m + 0 ≡ m = omega arith in
    find_and p t m s.seat (present_from (suc m) slots) (λ x is. ap (λ n. p (n, x)) (sym z) ∙ same 0 x is ∙ ap t z) (find_from p t (suc m) slots (λ k x is.
    let e : suc m + k ≡ m + suc k = omega arith in
    ap (λ n. p (n, x)) e ∙ same (suc k) x is ∙ ap t (sym e)))

taker_rows : (next : SetRows) (q : ℕ) (xs : List (ℕ × Seat)) → taker_in (map (λ m. (m.0, m.1.granted)) xs) next q ≡ option_map (λ m. m.0) (find (λ (m : ℕ × Seat). is_in (set_of next m.0) q && not (is_in m.1.granted q)) xs)
taker_rows next q [] = refl
taker_rows next q (x ∷ xs) = go (is_in (set_of next x.0) q && not (is_in x.1.granted q)) (taker_rows next q xs)
  where
    go : (b : Bool) → taker_in (map (λ m. (m.0, m.1.granted)) xs) next q ≡ option_map (λ m. m.0) (find (λ (m : ℕ × Seat). is_in (set_of next m.0) q && not (is_in m.1.granted q)) xs)
        → option_map (λ (row : ℕ × PartitionSet). row.0) (cond b (Some (x.0, x.1.granted)) (find (λ row. is_in (set_of next row.0) q && not (is_in row.1 q)) (map (λ m. (m.0, m.1.granted)) xs)))
        ≡ option_map (λ (m : ℕ × Seat). m.0) (cond b (Some x) (find (λ m. is_in (set_of next m.0) q && not (is_in m.1.granted q)) xs))
    go true later = refl
    go false later = later

pub taker_is : (g : GroupState) (next : SetRows) (q : ℕ) → taker g next q ≡ find (takes g next q) (members g)
taker_is g next q = taker_rows next q (present g.slots) ∙ find_from (λ m. is_in (set_of next m.0) q && not (is_in m.1.granted q)) (takes g next q) 1 g.slots (λ k x is.
    let e : 1 + k ≡ suc k = omega arith in
    let own : granted_of g (1 + k) ≡ x.granted = ap (granted_of g) e ∙ ap (seat_granted g.partitions) is in
    ap (λ s. is_in (set_of next (1 + k)) q && not (is_in s q)) (sym own))

pub one_taker : (g : GroupState) (next : SetRows) → ((m n q : ℕ) → is_in (set_of next m) q ≡ true → is_in (set_of next n) q ≡ true → m ≡ n) → ((m q : ℕ) → is_in (set_of next m) q ≡ true → Listed m (members g)) → (q m : ℕ) → takes g next q m ≡ true → taker g next q ≡ Some m
one_taker g next disjoint listed q m e =
    let row : is_in (set_of next m) q ≡ true = (both_true (is_in (set_of next m) q) (not (is_in (granted_of g m) q)) e).0 in
    let n = find_some (takes g next q) (members g) m (listed m q row) e in
    let same : n.0 ≡ m = disjoint n.0 m q ((both_true (is_in (set_of next n.0) q) (not (is_in (granted_of g n.0) q)) n.2).0) row in
    taker_is g next q ∙ n.1 ∙ ap (λ (k : ℕ). Some k) same

pub holder_after : (g : GroupState) (next : SetRows) (q : ℕ) → length g.last ≡ g.partitions → q < g.partitions → slice_index_or (last_after g next) q None ≡ option_or (taker g next q) (last_holder g q)
holder_after g next q long lt =
    get_or-map-range_with_len (λ k. option_or (slice_index_or (takers g next) k None) (last_holder g k)) 0 (length g.last) q q None (omega (arith, long, lt)) (omega arith)
    ∙ ap (λ o. option_or o (last_holder g q)) (get_or-map-range_with_len (taker g next) 0 g.partitions q q None lt (omega arith))

pub held_after : (g : GroupState) (next : SetRows) → ((m n q : ℕ) → is_in (set_of next m) q ≡ true → is_in (set_of next n) q ≡ true → m ≡ n) → ((m q : ℕ) → is_in (set_of next m) q ≡ true → Listed m (members g))
    → ((m n q : ℕ) → is_in (set_of next m) q ≡ true → is_in (granted_of g n) q ≡ true → m ≡ n)
    → length g.last ≡ g.partitions → (m q : ℕ) → q < g.partitions → (is_in (granted_of g m) q ≡ true → last_holder g q ≡ Some m) → (is_in (granted_of g m) q ≡ true) ⊎ (is_in (set_of next m) q ≡ true) → slice_index_or (last_after g next) q None ≡ Some m
held_after g next disjoint listed others long m q lt held now = holder_after g next q long lt ∙ go (is_in (granted_of g m) q) refl
  where
    stays : is_in (granted_of g m) q ≡ true → (o : Option ℕ) → taker g next q ≡ o → option_or o (last_holder g q) ≡ Some m
    stays own None e = held own
    stays own (Some n) e =
        let t = both_true (is_in (set_of next n) q) (not (is_in (granted_of g n) q)) (find_says (takes g next q) (members g) n (sym (taker_is g next q) ∙ e)) in
        let same : m ≡ n = sym (others n m q t.0 own) in
        let mine : is_in (granted_of g n) q ≡ true = ap (λ k. is_in (granted_of g k) q) (sym same) ∙ own in
        absurd (false≢true (ap not (sym mine) ∙ t.1))

    given : is_in (granted_of g m) q ≡ false → (is_in (granted_of g m) q ≡ true) ⊎ (is_in (set_of next m) q ≡ true) → takes g next q m ≡ true
    given out (inl own) = absurd (false≢true (sym out ∙ own))
    given out (inr row) = rw (row, out) refl

    go : (b : Bool) → is_in (granted_of g m) q ≡ b → option_or (taker g next q) (last_holder g q) ≡ Some m
    go true own = stays own (taker g next q) refl
    go false out = ap (λ o. option_or o (last_holder g q)) (one_taker g next disjoint listed q m (given out now))
