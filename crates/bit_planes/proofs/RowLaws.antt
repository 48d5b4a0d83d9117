-- The laws of sets by member, by look-up.
use Rattle.std.proofs.Common.{ℕ, zero, suc, ◌≡◌, ◌≢◌, ◌+◌, ◌<◌, ◌≤◌, ◌==◌, true, false, List, [], ◌∷◌, ◌++◌, length, map, Some, None, get_or, refl, ap, sym, ◌∙◌, arith, inl, inr}
use Rattle.std.specs.Prelude.{nat_lt, if◌then◌else◌}
use Rattle.std.specs.List.Sorted.{IsStrictlyIncreasing}
use Rattle.std.proofs.lemmas.Bool.{cases_lt, cases_eq, le-ltb}
use Rattle.std.proofs.lemmas.Bool.Decides.{nat_tests}
use Rattle.bit_planes.specs.PartitionSet.{PartitionSet, partitions_of}
use Rattle.bit_planes.specs.SetRows.{SetRows, IsValidRows, AreOver, find_row, row_of, put_row, with_row}

eq_self : (n : ℕ) → (n == n) ≡ true
eq_self n = grind (arith, nat_tests)

eq_other : (m n : ℕ) → m ≢ n → (m == n) ≡ false
eq_other m n ne = grind (arith, nat_tests)

eq_says : (m n : ℕ) → (m == n) ≡ true → m ≡ n
eq_says m n e = grind (arith, nat_tests)

eq_denies : (m n : ℕ) → (m == n) ≡ false → m ≢ n
eq_denies m n e = grind (arith, nat_tests)

lt_says : (m n : ℕ) → nat_lt m n ≡ true → m < n
lt_says m n e = grind (arith, nat_tests)

lt_denies : (m n : ℕ) → nat_lt m n ≡ false → n ≤ m
lt_denies m n e = grind (arith, nat_tests)

-- ---- look-ups
found_first : (row : ℕ × PartitionSet) (rows : List (ℕ × PartitionSet)) (m : ℕ) → row.0 ≡ m → find_row (row ∷ rows) m ≡ Some row.1
found_first row rows m e = rw e (rw (eq_self m) refl)

found_later : (row : ℕ × PartitionSet) (rows : List (ℕ × PartitionSet)) (m : ℕ) → row.0 ≢ m → find_row (row ∷ rows) m ≡ find_row rows m
found_later row rows m ne = rw (eq_other row.0 m ne) refl

pub found_put : (rows : List (ℕ × PartitionSet)) (m : ℕ) (s : PartitionSet) → find_row (put_row rows m s) m ≡ Some s
found_put [] m s = found_first (m, s) [] m refl
found_put (row ∷ rows) m s = elim (row.0 == m) as (λ h. (row.0 == m) ≡ h → find_row (if h then (m, s) ∷ rows else if nat_lt m row.0 then (m, s) ∷ row ∷ rows else row ∷ put_row rows m s) m ≡ Some s) [
  | true ↦ λ e. found_first (m, s) rows m refl
  | false ↦ λ e. elim (nat_lt m row.0) as (λ b. find_row (if b then (m, s) ∷ row ∷ rows else row ∷ put_row rows m s) m ≡ Some s) [
    | true ↦ found_first (m, s) (row ∷ rows) m refl
    | false ↦ found_later row (put_row rows m s) m (eq_denies row.0 m e) ∙ found_put rows m s
  ]
] refl

pub found_other : (rows : List (ℕ × PartitionSet)) (m : ℕ) (s : PartitionSet) (n : ℕ) → n ≢ m → find_row (put_row rows m s) n ≡ find_row rows n
found_other [] m s n ne = let ne_sym : m ≢ n = λ e. ne (sym e) in found_later (m, s) [] n ne_sym
found_other (row ∷ rows) m s n ne =
    let ne_sym : m ≢ n = λ e. ne (sym e) in
    elim (row.0 == m) as (λ h. (row.0 == m) ≡ h → find_row (if h then (m, s) ∷ rows else if nat_lt m row.0 then (m, s) ∷ row ∷ rows else row ∷ put_row rows m s) n ≡ find_row (row ∷ rows) n) [
      | true ↦ λ e. found_later (m, s) rows n ne_sym ∙ sym (found_later row rows n (λ f. ne_sym (sym (eq_says row.0 m e) ∙ f)))
      | false ↦ λ e. elim (nat_lt m row.0) as (λ b. find_row (if b then (m, s) ∷ row ∷ rows else row ∷ put_row rows m s) n ≡ find_row (row ∷ rows) n) [
        | true ↦ found_later (m, s) (row ∷ rows) n ne_sym
        | false ↦ ap (λ o. if row.0 == n then Some row.1 else o) (found_other rows m s n ne)
      ]
    ] refl

pub row_of-this : (r : SetRows) (m : ℕ) (s : PartitionSet) → row_of (with_row r m s) m ≡ Some s
row_of-this r m s = found_put r.rows m s

pub row_of-other : (r : SetRows) (m : ℕ) (s : PartitionSet) (n : ℕ) → n ≢ m → row_of (with_row r m s) n ≡ row_of r n
row_of-other r m s n ne = found_other r.rows m s n ne

-- ---- sets over one P
pub over_put : (p : ℕ) (rows : List (ℕ × PartitionSet)) (m : ℕ) (s : PartitionSet) → partitions_of s ≡ p → AreOver p rows → AreOver p (put_row rows m s)
over_put p [] m s e over = (e, tt)
over_put p (row ∷ rows) m s e over = elim (row.0 == m) as (λ h. AreOver p (if h then (m, s) ∷ rows else if nat_lt m row.0 then (m, s) ∷ row ∷ rows else row ∷ put_row rows m s)) [
  | true ↦ (e, over.1)
  | false ↦ elim (nat_lt m row.0) as (λ b. AreOver p (if b then (m, s) ∷ row ∷ rows else row ∷ put_row rows m s)) [
    | true ↦ (e, over)
    | false ↦ (over.0, over_put p rows m s e over.1)
  ]
]

pub over_found : (p : ℕ) (rows : List (ℕ × PartitionSet)) (m : ℕ) (s : PartitionSet) → AreOver p rows → find_row rows m ≡ Some s → partitions_of s ≡ p
over_found p [] m s over e = absurd (cc e)
over_found p (row ∷ rows) m s over e = elim (row.0 == m) as (λ h. (if h then Some row.1 else find_row rows m) ≡ Some s → partitions_of s ≡ p) [
  | true ↦ λ f. let same : row.1 ≡ s = cc f in ap partitions_of (sym same) ∙ over.0
  | false ↦ λ f. over_found p rows m s over.1 f
] e

pub over_at : (p : ℕ) (rows : List (ℕ × PartitionSet)) (i : ℕ) (d : ℕ × PartitionSet) → AreOver p rows → i < length rows → partitions_of (get_or rows i d).1 ≡ p
over_at p [] i d over lt = absurd (omega arith)
over_at p (row ∷ rows) zero d over lt = over.0
over_at p (row ∷ rows) (suc i) d over lt = over_at p rows i d over.1 (omega arith)

-- ---- numbers that rise
-- each is below any later one
pub below_later : (ms : List ℕ) → IsStrictlyIncreasing ms → (i j : ℕ) → i < j → j < length ms → get_or ms i 0 < get_or ms j 0
below_later ms rising i zero less lt = absurd (omega (arith, less))
below_later ms rising i (suc j) less lt =
    let e : suc j ≡ j + 1 = omega arith in
    let step : get_or ms j 0 < get_or ms (suc j) 0 = rw e (rising j (omega (arith, lt))) in
    elim (cases_lt i j) [
      | inl more ↦ omega (arith, below_later ms rising i j more (omega (arith, lt)), step)
      | inr past ↦ let same : i ≡ j = omega (arith, less, past) in rw same step
    ]

pub rising_from : (ms : List ℕ) → ((i j : ℕ) → i < j → j < length ms → get_or ms i 0 < get_or ms j 0) → IsStrictlyIncreasing ms
rising_from ms below k lt = below k (k + 1) (omega arith) lt

pub rising_first : (x : ℕ) (ms : List ℕ) → IsStrictlyIncreasing (x ∷ ms) → (i : ℕ) → i < length ms → x < get_or ms i 0
rising_first x ms rising i lt = below_later (x ∷ ms) rising 0 (suc i) (omega arith) (omega arith)

pub rising_rest : (x : ℕ) (ms : List ℕ) → IsStrictlyIncreasing (x ∷ ms) → IsStrictlyIncreasing ms
rising_rest x ms rising = rising_from ms (λ i j lt few. below_later (x ∷ ms) rising (suc i) (suc j) (omega arith) (omega arith))

below_more : (x : ℕ) (ms : List ℕ) → ((i : ℕ) → i < length ms → x < get_or ms i 0) → IsStrictlyIncreasing ms → (i j : ℕ) → i < j → j < length (x ∷ ms) → get_or (x ∷ ms) i 0 < get_or (x ∷ ms) j 0
below_more x ms above rising i zero lt few = absurd (omega arith)
below_more x ms above rising zero (suc j) lt few = above j (omega arith)
below_more x ms above rising (suc i) (suc j) lt few = below_later ms rising i j (omega arith) (omega arith)

pub rising_more : (x : ℕ) (ms : List ℕ) → ((i : ℕ) → i < length ms → x < get_or ms i 0) → IsStrictlyIncreasing ms → IsStrictlyIncreasing (x ∷ ms)
rising_more x ms above rising = rising_from (x ∷ ms) (below_more x ms above rising)

first_above : (x y : ℕ) (ms : List ℕ) → x < y → ((i : ℕ) → i < length ms → x < get_or ms i 0) → (i : ℕ) → i < length (y ∷ ms) → x < get_or (y ∷ ms) i 0
first_above x y ms lt above zero few = lt
first_above x y ms lt above (suc i) few = above i (omega arith)

above_put : (rows : List (ℕ × PartitionSet)) (m : ℕ) (s : PartitionSet) (x : ℕ) → x < m → ((i : ℕ) → i < length (map (λ row. row.0) rows) → x < get_or (map (λ row. row.0) rows) i 0)
    → (i : ℕ) → i < length (map (λ row. row.0) (put_row rows m s)) → x < get_or (map (λ row. row.0) (put_row rows m s)) i 0
above_put [] m s x lt above = first_above x m [] lt (λ i few. absurd (omega arith))
above_put (row ∷ rows) m s x lt above = elim (row.0 == m) as (λ h. (i : ℕ) → i < length (map (λ row. row.0) (if h then (m, s) ∷ rows else if nat_lt m row.0 then (m, s) ∷ row ∷ rows else row ∷ put_row rows m s))
    → x < get_or (map (λ row. row.0) (if h then (m, s) ∷ rows else if nat_lt m row.0 then (m, s) ∷ row ∷ rows else row ∷ put_row rows m s)) i 0) [
      | true ↦ first_above x m (map (λ row. row.0) rows) lt (λ i few. above (suc i) (omega arith))
      | false ↦ elim (nat_lt m row.0) as (λ b. (i : ℕ) → i < length (map (λ row. row.0) (if b then (m, s) ∷ row ∷ rows else row ∷ put_row rows m s))
          → x < get_or (map (λ row. row.0) (if b then (m, s) ∷ row ∷ rows else row ∷ put_row rows m s)) i 0) [
            | true ↦ first_above x m (map (λ row. row.0) (row ∷ rows)) lt above
            | false ↦ first_above x row.0 (map (λ row. row.0) (put_row rows m s)) (above 0 (omega arith)) (above_put rows m s x lt (λ i few. above (suc i) (omega arith)))
          ]
    ]

all_above : (m x : ℕ) (ms : List ℕ) → m < x → ((i : ℕ) → i < length ms → x < get_or ms i 0) → (i : ℕ) → i < length (x ∷ ms) → m < get_or (x ∷ ms) i 0
all_above m x ms lt above zero few = lt
all_above m x ms lt above (suc i) few = let over = above i (omega arith) in omega (arith, lt, over)

pub rising_put : (rows : List (ℕ × PartitionSet)) (m : ℕ) (s : PartitionSet) → IsStrictlyIncreasing (map (λ row. row.0) rows) → IsStrictlyIncreasing (map (λ row. row.0) (put_row rows m s))
rising_put [] m s rising = rising_more m [] (λ i lt. absurd (omega arith)) rising
rising_put (row ∷ rows) m s rising =
    let names : List ℕ = map (λ row. row.0) rows in
    elim (row.0 == m) as (λ h. (row.0 == m) ≡ h → IsStrictlyIncreasing (map (λ row. row.0) (if h then (m, s) ∷ rows else if nat_lt m row.0 then (m, s) ∷ row ∷ rows else row ∷ put_row rows m s))) [
      | true ↦ λ e. let same = eq_says row.0 m e in rising_more m names (λ i lt. let above = rising_first row.0 names rising i lt in omega (arith, same, above)) (rising_rest row.0 names rising)
      | false ↦ λ e. elim (nat_lt m row.0) as (λ b. nat_lt m row.0 ≡ b → IsStrictlyIncreasing (map (λ row. row.0) (if b then (m, s) ∷ row ∷ rows else row ∷ put_row rows m s))) [
        | true ↦ λ f. let lt = lt_says m row.0 f in rising_more m (row.0 ∷ names) (all_above m row.0 names lt (rising_first row.0 names rising)) rising
        | false ↦ λ f. let ge = lt_denies m row.0 f in let ne = eq_denies row.0 m e in rising_more row.0 (map (λ row. row.0) (put_row rows m s)) (above_put rows m s row.0 (omega arith) (rising_first row.0 names rising)) (rising_put rows m s (rising_rest row.0 names rising))
      ] refl
    ] refl

pub are_rows-with : (r : SetRows) (m : ℕ) (s : PartitionSet) → partitions_of s ≡ r.partitions → IsValidRows r → IsValidRows (with_row r m s)
are_rows-with r m s e valid = record {
  some = valid.some;
  few = valid.few;
  rising = rising_put r.rows m s valid.rising;
  over = over_put r.partitions r.rows m s e valid.over;
}

-- a member above all others goes to the end
pub put_last : (rows : List (ℕ × PartitionSet)) (m : ℕ) (s : PartitionSet) → ((i : ℕ) → i < length (map (λ row. row.0) rows) → get_or (map (λ row. row.0) rows) i 0 < m) → put_row rows m s ≡ rows ++ (m, s) ∷ []
put_last [] m s below = refl
put_last (row ∷ rows) m s below =
    let first = below 0 (omega arith) in
    let other : row.0 ≢ m = omega (arith, first) in
    rw (eq_other row.0 m other, le-ltb m row.0 (omega (arith, first))) (ap (λ rest. row ∷ rest) (put_last rows m s (λ i lt. below (suc i) (omega arith))))

-- ---- rows that look-ups distinguish
found_none_below : (rows : List (ℕ × PartitionSet)) (m : ℕ) → ((i : ℕ) → i < length (map (λ row. row.0) rows) → m < get_or (map (λ row. row.0) rows) i 0) → find_row rows m ≡ None
found_none_below [] m above = refl
found_none_below (row ∷ rows) m above =
    let first = above 0 (omega arith) in
    let other : row.0 ≢ m = omega (arith, first) in
    found_later row rows m other ∙ found_none_below rows m (λ i lt. above (suc i) (omega arith))

same_found : (rs ts : List (ℕ × PartitionSet)) → IsStrictlyIncreasing (map (λ row. row.0) rs) → IsStrictlyIncreasing (map (λ row. row.0) ts) → ((m : ℕ) → find_row rs m ≡ find_row ts m) → rs ≡ ts
same_found [] [] up up' same = refl
same_found [] (t ∷ ts) up up' same = let one = found_first t ts t.0 refl in let none = same t.0 in absurd (cc (one, none))
same_found (r ∷ rs) [] up up' same = let one = found_first r rs r.0 refl in let none = same r.0 in absurd (cc (one, none))
same_found (r ∷ rs) (t ∷ ts) up up' same =
    let rs_above = rising_first r.0 (map (λ row. row.0) rs) up in
    let ts_above = rising_first t.0 (map (λ row. row.0) ts) up' in
    let mine = found_first r rs r.0 refl in
    let theirs = found_first t ts t.0 refl in
    elim (cases_eq r.0 t.0) [
      | inl e ↦
          let at = sym mine ∙ same r.0 ∙ found_first t ts r.0 (sym e) in
          let set : r.1 ≡ t.1 = cc at in
          let rest : rs ≡ ts = same_found rs ts (rising_rest r.0 (map (λ row. row.0) rs) up) (rising_rest t.0 (map (λ row. row.0) ts) up') (λ m. elim (cases_eq m r.0) [
            | inl here ↦ rw here (found_none_below rs r.0 rs_above ∙ sym (found_none_below ts r.0 (rw e ts_above)))
            | inr other ↦
                let not_r : r.0 ≢ m = λ f. other (sym f) in
                let not_t : t.0 ≢ m = λ f. other (sym (e ∙ f)) in
                sym (found_later r rs m not_r) ∙ same m ∙ found_later t ts m not_t
          ]) in
          ap (λ x. (x, r.1) ∷ rs) e ∙ ap (λ x. (t.0, x) ∷ rs) set ∙ ap (λ x. t ∷ x) rest
      | inr ne ↦ elim (cases_lt r.0 t.0) [
        | inl lt ↦ let none = found_none_below (t ∷ ts) r.0 (all_above r.0 t.0 (map (λ row. row.0) ts) lt ts_above) in let found = same r.0 in absurd (cc (none, found, mine))
        | inr ge ↦ let lt : t.0 < r.0 = omega (arith, ge, ne) in let none = found_none_below (r ∷ rs) t.0 (all_above t.0 r.0 (map (λ row. row.0) rs) lt rs_above) in let found = same t.0 in absurd (cc (none, found, theirs))
      ]
    ]

pub same_rows : (r s : SetRows) → IsValidRows r → IsValidRows s → r.partitions ≡ s.partitions → ((m : ℕ) → row_of r m ≡ row_of s m) → r ≡ s
same_rows r s valid valid' below same =
    ap (λ n. record r { partitions = n }) below ∙ ap (λ (rows : List (ℕ × PartitionSet)). record s { rows = rows }) (same_found r.rows s.rows valid.rising valid'.rising same)
