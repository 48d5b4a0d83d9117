-- Rows from which those of some members are withheld, one member after the other.
use Rattle.std.proofs.Common.{ℕ, zero, suc, ◌≡◌, ◌<◌, ◌==◌, ◌∙◌, Bool, true, false, ◌&&◌, ◌||◌, not, List, [], ◌∷◌, ◌++◌, length, take, get_or, map, cond, refl, ap, sym, arith}
use Rattle.std.proofs.lemmas.Bool.Decides.{nat_tests}
use Rattle.std.proofs.lemmas.List.{length-map, take_all}
use Rattle.bit_planes.specs.PartitionSet.{PartitionSet, is_in, minus}
use Rattle.bit_planes.specs.SetRows.{SetRows, members, less_row, with_less}
use Rattle.bit_planes.proofs.Sets.{in_minus, partitions_minus, same_set}
use Rattle.coop_rebalance.proofs.WithheldRows.{in_withheld_row, withheld_set}
use Rattle.coop_rebalance.specs.Withheld.{granted_to_other, withheld_row, withheld}

abbrev Rows : Type 0
Rows = List (ℕ × PartitionSet)

abbrev pub has_row : Rows → ℕ → Bool
has_row [] m = false
has_row (row ∷ rows) m = (row.0 == m) || has_row rows m

-- a row after the members of some rows had their turns
abbrev pub after_turns : Rows → Rows → (ℕ × PartitionSet) → (ℕ × PartitionSet)
after_turns granted done row = cond (has_row done row.0) (withheld_row granted row) row

abbrev pub withheld_of : SetRows → SetRows → Rows → SetRows
withheld_of target granted done = record target { rows = map (after_turns granted.rows done) target.rows }

eq_says : (m n : ℕ) → (m == n) ≡ true → m ≡ n
eq_says m n e = grind (arith, nat_tests)

eq_self : (n : ℕ) → (n == n) ≡ true
eq_self n = grind (arith, nat_tests)

eq_after_turns : (m n : ℕ) → (m == n) ≡ (n == m)
eq_after_turns m n = grind (arith, nat_tests)

or_none : (x : Bool) → (x || false) ≡ x
or_none true = refl
or_none false = refl

or_true : (x : Bool) → (x || true) ≡ true
or_true true = refl
or_true false = refl

or_swap : (x y z : Bool) → (x || (y || z)) ≡ ((x || y) || z)
or_swap true y z = refl
or_swap false y z = refl

has_more : (done : Rows) (row : ℕ × PartitionSet) (m : ℕ) → has_row (done ++ row ∷ []) m ≡ (has_row done m || (row.0 == m))
has_more [] row m = or_none (row.0 == m)
has_more (r ∷ done) row m = ap (λ b. (r.0 == m) || b) (has_more done row m) ∙ or_swap (r.0 == m) (has_row done m) (row.0 == m)

has_at : (rows : Rows) (i : ℕ) → i < length rows → has_row rows (get_or (map (λ row. row.0) rows) i 0) ≡ true
has_at [] i lt = absurd (omega arith)
has_at (row ∷ rows) zero lt = ap (λ b. b || has_row rows row.0) (eq_self row.0)
has_at (row ∷ rows) (suc i) lt = ap (λ b. (row.0 == get_or (map (λ row. row.0) rows) i 0) || b) (has_at rows i (omega arith)) ∙ or_true (row.0 == get_or (map (λ row. row.0) rows) i 0)

off_twice : (x y : Bool) → ((x && not y) && not y) ≡ (x && not y)
off_twice true true = refl
off_twice true false = refl
off_twice false y = refl

withheld_again : (granted : Rows) (row : ℕ × PartitionSet) (others : PartitionSet) → ((q : ℕ) → is_in others q ≡ granted_to_other granted row.0 q) → (row.0, minus (withheld_row granted row).1 others) ≡ withheld_row granted row
withheld_again granted row others others_are =
    let w : PartitionSet = (withheld_row granted row).1 in
    ap (λ s. (row.0, s)) (same_set (minus w others) w (partitions_minus w others) (λ q lt. in_minus w others q ∙ rw (in_withheld_row granted row q, others_are q) (off_twice (is_in row.1 q) (granted_to_other granted row.0 q))))

after_turns_same : (granted done : Rows) (row : ℕ × PartitionSet) → (after_turns granted done row).0 ≡ row.0
after_turns_same granted done row = elim (has_row done row.0) as (λ b. (cond b (withheld_row granted row) row).0 ≡ row.0) [ true ↦ refl | false ↦ refl ]

less_after_turns : (granted done : Rows) (m : ℕ) (own others : PartitionSet) (row : ℕ × PartitionSet) → ((q : ℕ) → is_in others q ≡ granted_to_other granted m q)
    → less_row m others (after_turns granted done row) ≡ after_turns granted (done ++ (m, own) ∷ []) row
less_after_turns granted done m own others row others_are =
    let more : has_row (done ++ (m, own) ∷ []) row.0 ≡ (has_row done row.0 || (row.0 == m)) = has_more done (m, own) row.0 ∙ ap (λ b. has_row done row.0 || b) (eq_after_turns m row.0) in
    let t : ℕ × PartitionSet = after_turns granted done row in
    let number : (t.0 == m) ≡ (row.0 == m) = ap (λ n. n == m) (after_turns_same granted done row) in
    ap (λ b. cond b (t.0, minus t.1 others) t) number
    ∙ (ap (λ n. cond (row.0 == m) (n, minus t.1 others) t) (after_turns_same granted done row)
    ∙ (elim (row.0 == m) as (λ x. (row.0 == m) ≡ x → cond x (row.0, minus t.1 others) t ≡ cond (has_row done row.0 || x) (withheld_row granted row) row) [
      | true ↦ λ e.
          let here : (q : ℕ) → is_in others q ≡ granted_to_other granted row.0 q = λ q. others_are q ∙ ap (λ n. granted_to_other granted n q) (sym (eq_says row.0 m e)) in
          elim (has_row done row.0) as (λ b. (row.0, minus (cond b (withheld_row granted row) row).1 others) ≡ cond (b || true) (withheld_row granted row) row) [
            | true ↦ withheld_again granted row others here
            | false ↦ withheld_set granted row others here
          ]
      | false ↦ λ e. ap (λ b. cond b (withheld_row granted row) row) (sym (or_none (has_row done row.0)))
    ] refl ∙ ap (λ b. cond b (withheld_row granted row) row) (sym more)))

all_after_turns : (granted done rows : Rows) (m : ℕ) (own others : PartitionSet) → ((q : ℕ) → is_in others q ≡ granted_to_other granted m q)
    → map (less_row m others) (map (after_turns granted done) rows) ≡ map (after_turns granted (done ++ (m, own) ∷ [])) rows
all_after_turns granted done [] m own others others_are = refl
all_after_turns granted done (row ∷ rows) m own others others_are =
    ap (λ r. r ∷ map (less_row m others) (map (after_turns granted done) rows)) (less_after_turns granted done m own others row others_are)
    ∙ ap (λ rs. after_turns granted (done ++ (m, own) ∷ []) row ∷ rs) (all_after_turns granted done rows m own others others_are)

pub withheld_one : (target granted rows new : SetRows) (done : Rows) (row : ℕ × PartitionSet) (others : PartitionSet) → ((q : ℕ) → is_in others q ≡ granted_to_other granted.rows row.0 q)
    → rows ≡ withheld_of target granted done → new ≡ with_less rows row.0 others → new ≡ withheld_of target granted (done ++ row ∷ [])
withheld_one target granted rows new done row others others_are so_far is =
    is ∙ (ap (λ (r : SetRows). with_less r row.0 others) so_far ∙ ap (λ (rs : Rows). record target { rows = rs }) (all_after_turns granted.rows done target.rows row.0 row.1 others others_are))

none_after_turns : (granted rows : Rows) → rows ≡ map (after_turns granted []) rows
none_after_turns granted [] = refl
none_after_turns granted (row ∷ rows) = ap (λ rs. row ∷ rs) (none_after_turns granted rows)

pub withheld_none : (target granted : SetRows) → target ≡ withheld_of target granted []
withheld_none target granted = ap (λ (rs : Rows). record target { rows = rs }) (none_after_turns granted.rows target.rows)

each_after_turns : (granted done rows : Rows) → ((i : ℕ) → i < length rows → has_row done (get_or (map (λ row. row.0) rows) i 0) ≡ true) → map (after_turns granted done) rows ≡ map (withheld_row granted) rows
each_after_turns granted done [] all = refl
each_after_turns granted done (row ∷ rows) all =
    ap (λ b. cond b (withheld_row granted row) row ∷ map (after_turns granted done) rows) (all 0 (omega arith))
    ∙ ap (λ rs. withheld_row granted row ∷ rs) (each_after_turns granted done rows (λ i lt. all (suc i) (omega arith)))

pub withheld_each : (target granted : SetRows) (i : ℕ) → i ≡ length granted.rows → members target ≡ members granted → withheld_of target granted (take i granted.rows) ≡ withheld target granted
unfolding withheld
withheld_each target granted i e same =
    let mine = length-map target.rows (λ (row : ℕ × PartitionSet). row.0) in
    let theirs = length-map granted.rows (λ (row : ℕ × PartitionSet). row.0) in
    let long = ap length same in
    ap (λ (rs : Rows). withheld_of target granted rs) (take_all i granted.rows (omega arith))
    ∙ ap (λ (rs : Rows). record target { rows = rs }) (each_after_turns granted.rows granted.rows target.rows (λ j lt. ap (λ ns. has_row granted.rows (get_or ns j 0)) same ∙ has_at granted.rows j (omega (arith, mine, theirs, long, lt))))
