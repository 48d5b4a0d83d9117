-- A seat that is handed on.
use Rattle.std.proofs.Common.{ℕ, zero, suc, ◌≡◌, ◌+◌, ◌<◌, ◌==◌, Bool, true, false, ◌&&◌, ◌⊎◌, inl, inr, List, [], ◌∷◌, ◌++◌, Option, Some, None, is_some, length, length-append, map, slice_get, cond, refl, ap, sym, ◌∙◌, subst, arith}
use Rattle.std.proofs.lemmas.Bool.{false≢true, cases_eq}
use Rattle.std.proofs.lemmas.List.{map-append}
use Rattle.std.proofs.lemmas.List.Folds.{list_all-append}
use Rattle.std.proofs.lemmas.List.FromFn.{get_or-map-range_with_len, length-map-range_with_len}
use Rattle.std.specs.List.{list_all}
use Rattle.std.specs.Option.{option_map}
use Rattle.lane_words.specs.declared.limits.TheConstants.{MOST_MEMBERS}
use Rattle.bit_planes.specs.PartitionSet.{PartitionSet, partitions_of, is_in, is_within, one, size, empty_set}
use Rattle.bit_planes.proofs.Sets.{in_below, in_empty, within_of}
use Rattle.sticky_assignor.specs.Balanced.{holders, row_at, size_at, IsBalanced}
use Rattle.group_machine.specs.declared.group.Slot.{Slot}
use Rattle.group_machine.specs.declared.group.Seat.{Seat}
use Rattle.group_machine.specs.Slots.{seat_in, seat_of, and_member, present_from, present, reseated_from, only_of, without_seat}
use Rattle.group_machine.specs.State.{GroupState, member_of, members, is_present, is_anybody, is_joined, seat_joined, seat_granted, seat_assigned, granted_of, assigned_of, last_holder}
use Rattle.group_machine.specs.Settled.{is_stable, agrees, is_settled}
use Rattle.group_machine.specs.Steps.{handed_seat, successor, handing_on}
use Rattle.group_machine.specs.Valid.{IsConsistentSeat, LieInBalanced, IsValidGroup}
use Rattle.group_machine.proofs.SlotsLemmas.{same_id, other_id, number_given, seat_without, reseated_same, reseated_not}
use Rattle.group_machine.proofs.PresentLemmas.{Listed, listed_present, length_reseated, any_of}
use Rattle.group_machine.proofs.Rows.{map_same}
use Rattle.group_machine.proofs.GroupLemmas.{granted_over}
use Rattle.group_machine.proofs.CompletionLemmas.{seat_behind, some_of}
use Rattle.group_machine.proofs.StepLemmas.{IsFlag, consistent_flag, any_of_present}
use Rattle.group_machine.proofs.JoinLemmas.{seat_before, seat_last}

-- ---- rows of which one goes to the end
holders_append : (xs ys : List PartitionSet) (q : ℕ) → holders (xs ++ ys) q ≡ holders xs q + holders ys q
holders_append [] ys q = omega arith
holders_append (x ∷ xs) ys q = omega (arith, holders_append xs ys q)

row_last : (ys : List PartitionSet) (x : PartitionSet) (i : ℕ) → i < length (ys ++ x ∷ []) → (j : ℕ) × (j < length (x ∷ ys)) × (row_at (ys ++ x ∷ []) i ≡ row_at (x ∷ ys) j)
row_last [] x zero lt = (0, omega arith, refl)
row_last [] x (suc i) lt = absurd (omega arith)
row_last (y ∷ ys) x zero lt = (1, omega arith, refl)
row_last (y ∷ ys) x (suc i) lt = past (row_last ys x i (omega arith))
  where
    past : (j : ℕ) × (j < length (x ∷ ys)) × (row_at (ys ++ x ∷ []) i ≡ row_at (x ∷ ys) j) → (j : ℕ) × (j < length (x ∷ y ∷ ys)) × (row_at (ys ++ x ∷ []) i ≡ row_at (x ∷ y ∷ ys) j)
    past (zero, within, is) = (0, omega arith, is)
    past (suc j, within, is) = (suc (suc j), omega (arith, within), is)

row_moved : (xs ys : List PartitionSet) (x : PartitionSet) (i : ℕ) → i < length ((xs ++ ys) ++ x ∷ []) → (j : ℕ) × (j < length (xs ++ x ∷ ys)) × (row_at ((xs ++ ys) ++ x ∷ []) i ≡ row_at (xs ++ x ∷ ys) j)
row_moved [] ys x i lt = row_last ys x i lt
row_moved (y ∷ xs) ys x zero lt = (0, omega arith, refl)
row_moved (y ∷ xs) ys x (suc i) lt = let r = row_moved xs ys x i (omega arith) in (suc r.0, omega (arith, r.1), r.2)

pub holders_moved : (xs ys : List PartitionSet) (x : PartitionSet) (q : ℕ) → holders ((xs ++ ys) ++ x ∷ []) q ≡ holders (xs ++ x ∷ ys) q
holders_moved xs ys x q =
    let last : holders ((xs ++ ys) ++ x ∷ []) q ≡ holders (xs ++ ys) q + (one (is_in x q) + 0) = holders_append (xs ++ ys) (x ∷ []) q in
    let before : holders (xs ++ x ∷ ys) q ≡ holders xs q + (one (is_in x q) + holders ys q) = holders_append xs (x ∷ ys) q in
    omega (arith, last, before, holders_append xs ys q)

balanced_moved : (p : ℕ) (xs ys : List PartitionSet) (x : PartitionSet) → IsBalanced p (xs ++ x ∷ ys) → IsBalanced p ((xs ++ ys) ++ x ∷ [])
balanced_moved p xs ys x b = record {
  once = λ q lt. holders_moved xs ys x q ∙ b.once q lt;
  even = λ i j li lj.
      let k = row_moved xs ys x i li in
      let l = row_moved xs ys x j lj in
      let here : size_at ((xs ++ ys) ++ x ∷ []) i ≡ size_at (xs ++ x ∷ ys) k.0 = ap size k.2 in
      let there : size_at ((xs ++ ys) ++ x ∷ []) j ≡ size_at (xs ++ x ∷ ys) l.0 = ap size l.2 in
      omega (arith, here, there, b.even k.0 l.0 k.1 l.1);
}

rows_renamed : (f h : ℕ → PartitionSet) (xs ys : List ℕ) (m n : ℕ) → ((k : ℕ) → Listed k (xs ++ ys) → h k ≡ f k) → h n ≡ f m → map h ((xs ++ ys) ++ n ∷ []) ≡ (map f xs ++ map f ys) ++ f m ∷ []
rows_renamed f h xs ys m n same is =
    map-append h (xs ++ ys) (n ∷ [])
    ∙ ap (λ (rs : List PartitionSet). rs ++ h n ∷ []) (map_same h f (xs ++ ys) same ∙ map-append f xs ys)
    ∙ ap (λ (r : PartitionSet). (map f xs ++ map f ys) ++ r ∷ []) is

-- ---- the list of the present, of which one is taken out
abbrev gone : Option Seat → Option Seat
gone seat = None

-- where a member stands among the present, and those without it
pub record IsSplit (k : ℕ) (slots : List Slot) (n : ℕ) (x : Seat) : Type 0 where
  pub before : List (ℕ × Seat)
  pub after : List (ℕ × Seat)
  pub all : present_from k slots ≡ before ++ (n, x) ∷ after
  pub rest : present_from k (reseated_from k (only_of n gone) slots) ≡ before ++ after

and_front : (k : ℕ) (o : Option Seat) (xs ys : List (ℕ × Seat)) → and_member k o (xs ++ ys) ≡ and_member k o xs ++ ys
and_front k None xs ys = refl
and_front k (Some x) xs ys = refl

not_at : (f : Option Seat → Option Seat) (n k : ℕ) (o : Option Seat) → (k ≡ n → ⊥) → only_of n f k o ≡ o
not_at f n k o ne = rw (other_id k n ne) refl

split_first : (k : ℕ) (s : Slot) (slots : List Slot) (x : Seat) → s.seat ≡ Some x → IsSplit k (s ∷ slots) k x
split_first k s slots x is = record {
  before = [];
  after = present_from (suc k) slots;
  all = ap (λ o. and_member k o (present_from (suc k) slots)) is;
  rest = ap (λ b. and_member k (cond b None s.seat) (present_from (suc k) (reseated_from (suc k) (only_of k gone) slots))) (same_id k)
      ∙ ap (present_from (suc k)) (reseated_same (suc k) (only_of k gone) (λ n o. o) slots (λ i lt. not_at gone k (suc k + i) (seat_in (slice_get slots i)) (λ e. omega (arith, e))) ∙ reseated_not (suc k) slots);
}

split_later : (k : ℕ) (s : Slot) (slots : List Slot) (n : ℕ) (x : Seat) → k < n → IsSplit (suc k) slots n x → IsSplit k (s ∷ slots) n x
split_later k s slots n x lt r = record {
  before = and_member k s.seat r.before;
  after = r.after;
  all = ap (and_member k s.seat) r.all ∙ and_front k s.seat r.before ((n, x) ∷ r.after);
  rest = ap (λ o. and_member k o (present_from (suc k) (reseated_from (suc k) (only_of n gone) slots))) (not_at gone n k s.seat (λ e. omega (arith, lt, e)))
      ∙ ap (and_member k s.seat) r.rest ∙ and_front k s.seat r.before r.after;
}

split_from : (k : ℕ) (slots : List Slot) (i : ℕ) (x : Seat) → seat_in (slice_get slots i) ≡ Some x → IsSplit k slots (k + i) x
split_from k [] i x is = cc
split_from k (s ∷ slots) zero x is = let z : k ≡ k + 0 = omega arith in subst (λ (n : ℕ). IsSplit k (s ∷ slots) n x) z (split_first k s slots x is)
split_from k (s ∷ slots) (suc i) x is =
    let e : suc k + i ≡ k + suc i = omega arith in
    subst (λ (n : ℕ). IsSplit k (s ∷ slots) n x) e (split_later k s slots (suc k + i) x (omega arith) (split_from (suc k) slots i x is))

pub split_at : (slots : List Slot) (m : ℕ) (x : Seat) → seat_of slots m ≡ Some x → IsSplit 1 slots m x
split_at slots zero x is = cc
split_at slots (suc k) x is = let e : 1 + k ≡ suc k = omega arith in subst (λ (n : ℕ). IsSplit 1 slots n x) e (split_from 1 slots k x is)

present_more : (k : ℕ) (slots : List Slot) (s : Slot) (x : Seat) → s.seat ≡ Some x → present_from k (slots ++ s ∷ []) ≡ present_from k slots ++ (k + length slots, x) ∷ []
present_more k [] s x is = let z : k ≡ k + 0 = omega arith in ap (λ o. and_member k o []) is ∙ ap (λ (n : ℕ). (n, x) ∷ []) z
present_more k (t ∷ slots) s x is =
    let e : suc k + length slots ≡ k + length (t ∷ slots) = omega arith in
    ap (and_member k t.seat) (present_more (suc k) slots s x is)
    ∙ and_front k t.seat (present_from (suc k) slots) ((suc k + length slots, x) ∷ [])
    ∙ ap (λ (n : ℕ). and_member k t.seat (present_from (suc k) slots) ++ (n, x) ∷ []) e

-- ---- who is where
length_left : (g : GroupState) (m : ℕ) → length (without_seat g.slots m) ≡ length g.slots
length_left g m = length_reseated (only_of m gone) g.slots

pub handed_new : (g : GroupState) (name : List ℕ) (m : ℕ) → member_of (handing_on g name m) (suc (length g.slots)) ≡ option_map handed_seat (member_of g m)
handed_new g name m =
    let s : Slot = successor g name m in
    ap (λ n. seat_in (slice_get (without_seat g.slots m ++ s ∷ []) n)) (sym (length_left g m)) ∙ seat_last (without_seat g.slots m) s

handed_old : (g : GroupState) (name : List ℕ) (m n : ℕ) → (n ≡ suc (length g.slots) → ⊥) → member_of (handing_on g name m) n ≡ seat_of (without_seat g.slots m) n
handed_old g name m zero ne = refl
handed_old g name m (suc k) ne = seat_before (without_seat g.slots m) (successor g name m) k (λ e. ne (ap (λ i. suc i) (e ∙ length_left g m)))

pub handed_gone : (g : GroupState) (name : List ℕ) (m : ℕ) → is_present g m ≡ true → member_of (handing_on g name m) m ≡ None
handed_gone g name m here =
    let given = number_given g.slots m here in
    handed_old g name m m (λ e. omega (arith, given.1, e)) ∙ seat_without g.slots m m ∙ ap (λ b. cond b None (seat_of g.slots m)) (same_id m)

pub handed_other : (g : GroupState) (name : List ℕ) (m n : ℕ) → (n ≡ m → ⊥) → (n ≡ suc (length g.slots) → ⊥) → member_of (handing_on g name m) n ≡ member_of g n
handed_other g name m n other old = handed_old g name m n old ∙ seat_without g.slots m n ∙ ap (λ b. cond b None (seat_of g.slots n)) (other_id n m other)

pub hand_flag : IsFlag handed_seat
hand_flag = record { joined = λ x. refl; granted = λ x. refl; assigned = λ x. refl }

-- what does not look at whether a member has synced is handed on
pub handed_same : {X : Type 0} (h : Option Seat → X) → h (option_map handed_seat None) ≡ h None → ((x : Seat) → h (Some (handed_seat x)) ≡ h (Some x)) → (o : Option Seat) → h (option_map handed_seat o) ≡ h o
handed_same h none some None = none
handed_same h none some (Some x) = some x

pub handed_has : {X : Type 0} (h : Option Seat → X) → ((x : Seat) → h (Some (handed_seat x)) ≡ h (Some x)) → (g : GroupState) (name : List ℕ) (m : ℕ) → h (member_of (handing_on g name m) (suc (length g.slots))) ≡ h (member_of g m)
handed_has h same g name m = ap h (handed_new g name m) ∙ handed_same h refl same (member_of g m)

handed_granted : (g : GroupState) (name : List ℕ) (m n q : ℕ) → is_present g m ≡ true → is_in (granted_of (handing_on g name m) n) q ≡ true
    → ((n ≡ suc (length g.slots)) × (is_in (granted_of g m) q ≡ true)) ⊎ ((n ≡ m → ⊥) × (is_in (granted_of g n) q ≡ true))
handed_granted g name m n q here e = elim (cases_eq n (suc (length g.slots))) [
  | inl new ↦ inl (new, ap (λ s. is_in s q) (sym (handed_has (seat_granted g.partitions) (λ x. refl) g name m)) ∙ ap (λ k. is_in (granted_of (handing_on g name m) k) q) (sym new) ∙ e)
  | inr old ↦ elim (cases_eq n m) [
    | inl same ↦ absurd (false≢true (sym (in_empty g.partitions q) ∙ ap (λ o. is_in (seat_granted g.partitions o) q) (sym (handed_gone g name m here)) ∙ ap (λ k. is_in (granted_of (handing_on g name m) k) q) (sym same) ∙ e))
    | inr other ↦ inr (other, ap (λ o. is_in (seat_granted g.partitions o) q) (sym (handed_other g name m n other old)) ∙ e)
  ]
]

-- ---- the list of the present after it
handed_present : (g : GroupState) (name : List ℕ) (m : ℕ) (x : Seat) → member_of g m ≡ Some x → (sp : IsSplit 1 g.slots m x) → present (handing_on g name m).slots ≡ (sp.before ++ sp.after) ++ (suc (length g.slots), handed_seat x) ∷ []
handed_present g name m x is sp =
    let left : List Slot = without_seat g.slots m in
    let n : 1 + length left ≡ suc (length g.slots) = omega (arith, length_left g m) in
    present_more 1 left (successor g name m) (handed_seat x) (ap (option_map handed_seat) is)
    ∙ ap (λ (k : ℕ). present left ++ (k, handed_seat x) ∷ []) n
    ∙ ap (λ (xs : List (ℕ × Seat)). xs ++ (suc (length g.slots), handed_seat x) ∷ []) sp.rest

shuffle : (a b c : Bool) → ((a && b) && (c && true)) ≡ (a && (c && b))
shuffle true true true = refl
shuffle true true false = refl
shuffle true false true = refl
shuffle true false false = refl
shuffle false b c = refl

all_moved : (t : ℕ × Seat → Bool) (xs ys : List (ℕ × Seat)) (a b : ℕ × Seat) → t b ≡ t a → list_all t ((xs ++ ys) ++ b ∷ []) ≡ list_all t (xs ++ a ∷ ys)
all_moved t xs ys a b same =
    list_all-append t (xs ++ ys) (b ∷ [])
    ∙ ap (λ c. c && (t b && true)) (list_all-append t xs ys)
    ∙ shuffle (list_all t xs) (list_all t ys) (t b)
    ∙ ap (λ c. list_all t xs && (c && list_all t ys)) same
    ∙ sym (list_all-append t xs (a ∷ ys))

pub handed_settled : (g : GroupState) (name : List ℕ) (m : ℕ) → is_present g m ≡ true → is_settled (handing_on g name m) ≡ is_settled g
handed_settled g name m here =
    let x = some_of (member_of g m) here in
    let sp = split_at g.slots m x.0 x.1 in
    ap (λ t. is_stable g.phase && t)
    (ap (λ xs. list_all {X = ℕ × Seat} (λ r. agrees r.1) xs) (handed_present g name m x.0 x.1 sp)
    ∙ all_moved (λ r. agrees r.1) sp.before sp.after (m, x.0) (suc (length g.slots), handed_seat x.0) refl
    ∙ ap (λ xs. list_all {X = ℕ × Seat} (λ r. agrees r.1) xs) (sym sp.all))

-- the members before and after it: one is taken out, and its successor is the last
pub record IsHandedList (g : GroupState) (name : List ℕ) (m : ℕ) : Type 0 where
  pub front : List ℕ
  pub behind : List ℕ
  pub was : members g ≡ front ++ m ∷ behind
  pub now : members (handing_on g name m) ≡ (front ++ behind) ++ suc (length g.slots) ∷ []
  pub others : (k : ℕ) → Listed k (front ++ behind) → (k ≡ m → ⊥) × (k ≡ suc (length g.slots) → ⊥)

pub handed_list : (g : GroupState) (name : List ℕ) (m : ℕ) → is_present g m ≡ true → IsHandedList g name m
handed_list g name m here =
    let x = some_of (member_of g m) here in
    let sp = split_at g.slots m x.0 x.1 in
    let left : List Slot = without_seat g.slots m in
    let rest : map {A = ℕ × Seat} (λ r. r.0) (present left) ≡ map (λ r. r.0) sp.before ++ map (λ r. r.0) sp.after = ap (λ rs. map {A = ℕ × Seat} (λ r. r.0) rs) sp.rest ∙ map-append (λ r. r.0) sp.before sp.after in
    record {
      front = map (λ r. r.0) sp.before;
      behind = map (λ r. r.0) sp.after;
      was = ap (λ rs. map {A = ℕ × Seat} (λ r. r.0) rs) sp.all ∙ map-append (λ r. r.0) sp.before ((m, x.0) ∷ sp.after);
      now =
          ap (λ rs. map {A = ℕ × Seat} (λ r. r.0) rs) (handed_present g name m x.0 x.1 sp)
          ∙ map-append (λ r. r.0) (sp.before ++ sp.after) ((suc (length g.slots), handed_seat x.0) ∷ [])
          ∙ ap (λ ns. ns ++ suc (length g.slots) ∷ []) (map-append (λ r. r.0) sp.before sp.after);
      others = λ k at.
          let y = listed_present left k (subst (Listed k) (sym rest) at) in
          let given = number_given left k (ap is_some y.1) in
          (λ e. taken_out k y.0 e (sym (seat_without g.slots m k) ∙ y.1), λ e. omega (arith, given.1, length_left g m, e));
    }
  where
    taken_out : (k : ℕ) (y : Seat) → k ≡ m → cond (k == m) None (seat_of g.slots k) ≡ Some y → ⊥
    taken_out k y e is = let none : None ≡ Some y = ap (λ b. cond b None (seat_of g.slots k)) (sym (ap (λ n. n == m) e ∙ same_id m)) ∙ is in cc

-- rows by the members before and after
abbrev pub AreHanded : GroupState → ℕ → (ℕ → PartitionSet) → (ℕ → PartitionSet) → Type 0
AreHanded g m f h = ((k : ℕ) → (k ≡ m → ⊥) → (k ≡ suc (length g.slots) → ⊥) → h k ≡ f k) × (h (suc (length g.slots)) ≡ f m)

pub handed_rows : (g : GroupState) (name : List ℕ) (m : ℕ) (f h : ℕ → PartitionSet) → (l : IsHandedList g name m) → AreHanded g m f h → map h (members (handing_on g name m)) ≡ (map f l.front ++ map f l.behind) ++ f m ∷ []
handed_rows g name m f h l same =
    ap (λ (ms : List ℕ). map h ms) l.now
    ∙ rows_renamed f h l.front l.behind m (suc (length g.slots)) (λ k at. let o = l.others k at in same.0 k o.0 o.1) same.1

pub rows_before : (g : GroupState) (name : List ℕ) (m : ℕ) (f : ℕ → PartitionSet) → (l : IsHandedList g name m) → map f (members g) ≡ map f l.front ++ f m ∷ map f l.behind
rows_before g name m f l = ap (λ (ms : List ℕ). map f ms) l.was ∙ map-append f l.front (m ∷ l.behind)

pub handed_balanced : (g : GroupState) (name : List ℕ) (m : ℕ) (f h : ℕ → PartitionSet) → is_present g m ≡ true → AreHanded g m f h → IsBalanced g.partitions (map f (members g)) → IsBalanced g.partitions (map h (members (handing_on g name m)))
handed_balanced g name m f h here same b =
    let l = handed_list g name m here in
    let p : ℕ = g.partitions in
    subst (IsBalanced p) (sym (handed_rows g name m f h l same)) (balanced_moved p (map f l.front) (map f l.behind) (f m) (subst (IsBalanced p) (rows_before g name m f l) b))

-- ---- last holders
holder_handed : (g : GroupState) (name : List ℕ) (m q : ℕ) → q < length g.last → last_holder (handing_on g name m) q ≡ cond (is_in (granted_of g m) q) (Some (length g.slots + 1)) (last_holder g q)
holder_handed g name m q lt = get_or-map-range_with_len (λ k. cond (is_in (granted_of g m) k) (Some (length g.slots + 1)) (last_holder g k)) 0 (length g.last) q q None lt (omega arith)

-- ---- what lies in balanced rows still does
pub handed_within_balanced : (g : GroupState) (name : List ℕ) (m : ℕ) (rows : ℕ → PartitionSet) → IsValidGroup g → is_present g m ≡ true → LieInBalanced g rows → (rows : ℕ → PartitionSet) × LieInBalanced (handing_on g name m) rows
handed_within_balanced g name m rows valid here lie =
    let new : ℕ = suc (length g.slots) in
    let now : ℕ → PartitionSet = λ n. cond (n == new) (rows m) (rows n) in
    let at_new : now new ≡ rows m = ap (λ b. cond b (rows m) (rows new)) (same_id new) in
    let at_old : (n : ℕ) → (n ≡ new → ⊥) → now n ≡ rows n = λ n ne. ap (λ b. cond b (rows m) (rows n)) (other_id n new ne) in (
      now,
      record {
        below = λ n. elim (cases_eq n new) [
          | inl same ↦ ap (λ k. partitions_of (now k)) same ∙ ap partitions_of at_new ∙ lie.below m
          | inr old ↦ ap partitions_of (at_old n old) ∙ lie.below n
        ];
        balanced = handed_balanced g name m rows now here (λ k other old. at_old k old, at_new) lie.balanced;
        within = λ n. elim (cases_eq n new) [
          | inl same ↦ ap (λ k. is_within (assigned_of (handing_on g name m) k) (now k)) same ∙ ap (λ t. is_within t (now new)) (handed_has (seat_assigned g.partitions) (λ y. refl) g name m) ∙ ap (is_within (assigned_of g m)) at_new ∙ lie.within m
          | inr old ↦ elim (cases_eq n m) [
            | inl same ↦ ap (λ k. is_within (assigned_of (handing_on g name m) k) (now n)) same ∙ ap (λ o. is_within (seat_assigned g.partitions o) (now n)) (handed_gone g name m here) ∙ within_of (empty_set g.partitions) (now n) (λ q e. absurd (false≢true (sym (in_empty g.partitions q) ∙ e)))
            | inr other ↦ ap (λ o. is_within (seat_assigned g.partitions o) (now n)) (handed_other g name m n other old) ∙ ap (is_within (assigned_of g n)) (at_old n old) ∙ lie.within n
          ]
        ];
      },
    )

-- ---- a valid group stays one
pub handed_valid : (g : GroupState) (name : List ℕ) (m : ℕ) → IsValidGroup g → is_present g m ≡ true → length g.slots < MOST_MEMBERS → IsValidGroup (handing_on g name m)
handed_valid g name m valid here capacity =
    let p : ℕ = g.partitions in
    let now : GroupState = handing_on g name m in
    let new : ℕ = suc (length g.slots) in
    let number : new ≡ length g.slots + 1 = omega arith in
    let any : is_anybody g ≡ true = any_of_present g m here in
    let x = some_of (member_of g m) here in
    let some : is_anybody now ≡ true = any_of now.slots new (handed_seat x.0) (handed_new g name m ∙ ap (option_map handed_seat) x.1) in
    record {
      sized = record {
        some_partitions = valid.sized.some_partitions;
        few_partitions = valid.sized.few_partitions;
        few_members = omega (arith, length-append (without_seat g.slots m) (successor g name m ∷ []), length_left g m, capacity);
        a_holder_each = length-map-range_with_len (λ k. cond (is_in (granted_of g m) k) (Some (length g.slots + 1)) (last_holder g k)) 0 (length g.last) ∙ valid.sized.a_holder_each;
      };
      disjoint = λ a b q e h. elim (handed_granted g name m a q here e) [
        | inl na ↦ elim (handed_granted g name m b q here h) [
          | inl nb ↦ na.0 ∙ sym nb.0
          | inr ob ↦ absurd (ob.0 (valid.disjoint b m q ob.1 na.1))
        ]
        | inr oa ↦ elim (handed_granted g name m b q here h) [
          | inl nb ↦ absurd (oa.0 (valid.disjoint a m q oa.1 nb.1))
          | inr ob ↦ valid.disjoint a b q oa.1 ob.1
        ]
      ];
      consistent = λ n y is. elim (cases_eq n new) [
        | inl same ↦ (
            let b = seat_behind handed_seat (member_of g m) y (sym (handed_new g name m) ∙ ap (member_of now) (sym same) ∙ is) in
            subst (IsConsistentSeat p) (sym b.2) (consistent_flag p handed_seat hand_flag b.0 (valid.consistent m b.0 b.1)))
        | inr old ↦ elim (cases_eq n m) [
          | inl same ↦ (let none : None ≡ Some y = sym (handed_gone g name m here) ∙ ap (member_of now) (sym same) ∙ is in cc)
          | inr other ↦ valid.consistent n y (sym (handed_other g name m n other old) ∙ is)
        ]
      ];
      held = λ n q e.
          let lt : (k : ℕ) → is_in (granted_of g k) q ≡ true → q < length g.last = λ k h. omega (arith, in_below (granted_of g k) q h, granted_over g valid.consistent k, valid.sized.a_holder_each) in
          elim (handed_granted g name m n q here e) [
            | inl h ↦ holder_handed g name m q (lt m h.1) ∙ ap (λ b. cond b (Some (length g.slots + 1)) (last_holder g q)) h.1 ∙ ap (λ (k : ℕ). Some k) (sym number ∙ sym h.0)
            | inr h ↦ holder_handed g name m q (lt n h.1) ∙ ap (λ b. cond b (Some (length g.slots + 1)) (last_holder g q)) (not_both g m n q valid h.0 h.1) ∙ valid.held n q h.1
          ];
      balanced = λ s.
          handed_balanced g name m (granted_of g) (granted_of now) here (λ k other old. ap (seat_granted p) (handed_other g name m k other old), handed_has (seat_granted p) (λ y. refl) g name m) (valid.balanced (sym (handed_settled g name m here) ∙ s));
      stable = λ s n. elim (cases_eq n new) [
        | inl same ↦ ap (is_joined now) same ∙ handed_has seat_joined (λ y. refl) g name m ∙ valid.stable s m
        | inr old ↦ elim (cases_eq n m) [
          | inl same ↦ ap (is_joined now) same ∙ ap seat_joined (handed_gone g name m here)
          | inr other ↦ ap seat_joined (handed_other g name m n other old) ∙ valid.stable s n
        ]
      ];
      within_balanced = λ s. (let was = valid.within_balanced s in handed_within_balanced g name m was.0 valid here was.1);
      preparing = λ s.
          let was = valid.preparing s in
          elim (cases_eq was.0 m) [
            | inl same ↦ (new, handed_has is_some (λ y. refl) g name m ∙ here, handed_has seat_joined (λ y. refl) g name m ∙ ap (is_joined g) (sym same) ∙ was.2)
            | inr other ↦ (
                let given = number_given g.slots was.0 was.1 in
                let at = handed_other g name m was.0 other (λ e. omega (arith, given.1, e)) in
                (was.0, ap is_some at ∙ was.1, ap seat_joined at ∙ was.2))
          ];
      empty = (λ s. absurd (false≢true (sym (valid.empty.0 s) ∙ any)), λ s. absurd (false≢true (sym s ∙ some)));
      counted = λ a. valid.counted any;
    }
  where
    not_both : (g : GroupState) (m n q : ℕ) → IsValidGroup g → (n ≡ m → ⊥) → is_in (granted_of g n) q ≡ true → is_in (granted_of g m) q ≡ false
    not_both g m n q valid other e = go (is_in (granted_of g m) q) refl
      where
        go : (b : Bool) → is_in (granted_of g m) q ≡ b → is_in (granted_of g m) q ≡ false
        go true h = absurd (other (valid.disjoint n m q e h))
        go false h = h
