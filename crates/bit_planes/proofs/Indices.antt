-- What a search finds among rising members, and what is put there.
use Rattle.std.proofs.Common.{ℕ, zero, suc, ◌≡◌, ◌≢◌, ◌<◌, ◌≤◌, ◌==◌, true, false, List, [], ◌∷◌, ◌++◌, ◌+◌, ◌-◌, length, map, Some, None, Result, Ok, Err, IfOk, IfErr, get_or, set, refl, ap, sym, subst, ◌∙◌, arith, inl, inr}
use Rattle.std.specs.List.{insert, slice_get}
use Rattle.std.specs.List.Sorted.{IsBinarySearchResult, IsStrictlyIncreasing}
use Rattle.std.specs.Ordering.{nat_cmp, ordering_index}
use Rattle.std.proofs.lemmas.List.{length-map}
use Rattle.std.proofs.lemmas.List.Edits.{insert_end}
use Rattle.std.proofs.lemmas.Option.{slice_get-get_or}
use Rattle.std.proofs.lemmas.List.Sorted.{searched}
use Rattle.std.proofs.lemmas.Bool.{cases_lt, lt-ltb, le-ltb}
use Rattle.std.proofs.lemmas.Bool.Decides.{nat_tests}
use Rattle.bit_planes.specs.PartitionSet.{PartitionSet, partitions_of, empty_set}
use Rattle.bit_planes.specs.SetRows.{SetRows, IsValidRows, row_of, with_row, find_row, put_row}
use Rattle.bit_planes.specs.Private.Indices.{IsIndexOf, IsGapFor, member_at}
use Rattle.bit_planes.proofs.RowLaws.{below_later, rising_first, rising_rest, row_of-this, row_of-other, are_rows-with}

abbrev Rows : Type 0
Rows = List (ℕ × PartitionSet)

here : (n : ℕ) → (n == n) ≡ true
here n = grind (arith, nat_tests)

later : (m n : ℕ) → m < n → (m == n) ≡ false
later m n lt = grind (arith, nat_tests)

earlier : (m n : ℕ) → n < m → (m == n) ≡ false
earlier m n lt = grind (arith, nat_tests)

-- ---- look-up and put at an index
pub found_at : (rows : Rows) (m i : ℕ) (d : ℕ × PartitionSet) → IsStrictlyIncreasing (map (λ row. row.0) rows) → i < length rows → member_at rows i ≡ m → find_row rows m ≡ Some (get_or rows i d).1
found_at [] m i d rising lt e = absurd (omega arith)
found_at (row ∷ rows) m zero d rising lt e = rw e (rw (here m) refl)
found_at (row ∷ rows) m (suc i) d rising lt e =
    let long = length-map rows (λ (row : ℕ × PartitionSet). row.0) in
    let above = rising_first row.0 (map (λ row. row.0) rows) rising i (omega arith) in
    let other = later row.0 m (omega (arith, above, e)) in
    rw other (found_at rows m i d (rising_rest row.0 (map (λ row. row.0) rows) rising) (omega arith) e)

found_none : (rows : Rows) (m : ℕ) → ((i : ℕ) → i < length rows → member_at rows i ≢ m) → find_row rows m ≡ None
found_none [] m none = refl
found_none (row ∷ rows) m none =
    let other : (row.0 == m) ≡ false = elim (cases_lt row.0 m) [ inl lt ↦ later row.0 m lt | inr ge ↦ let ne = none 0 (omega arith) in earlier row.0 m (omega (arith, ge, ne)) ] in
    rw other (found_none rows m (λ i lt. none (suc i) (omega arith)))

put_at : (rows : Rows) (m i : ℕ) (s : PartitionSet) → IsStrictlyIncreasing (map (λ row. row.0) rows) → i < length rows → member_at rows i ≡ m → put_row rows m s ≡ set rows i (m, s)
put_at [] m i s rising lt e = absurd (omega arith)
put_at (row ∷ rows) m zero s rising lt e = let same : (row.0 == m) ≡ true = ap (λ n. n == m) e ∙ here m in rw same refl
put_at (row ∷ rows) m (suc i) s rising lt e =
    let long = length-map rows (λ (row : ℕ × PartitionSet). row.0) in
    let above = rising_first row.0 (map (λ row. row.0) rows) rising i (omega arith) in
    let other = later row.0 m (omega (arith, above, e)) in
    let not_before = le-ltb m row.0 (omega (arith, above, e)) in
    rw (other, not_before) (ap (λ rest. row ∷ rest) (put_at rows m i s (rising_rest row.0 (map (λ row. row.0) rows) rising) (omega arith) e))

put_in_gap : (rows : Rows) (m i : ℕ) (s : PartitionSet) → i ≤ length rows → ((j : ℕ) → j < i → member_at rows j < m) → ((j : ℕ) → i ≤ j → j < length rows → m < member_at rows j)
    → put_row rows m s ≡ insert rows i (m, s)
put_in_gap [] m zero s le before after = refl
put_in_gap [] m (suc i) s le before after = absurd (omega arith)
put_in_gap (row ∷ rows) m zero s le before after =
    let above = after 0 (omega arith) (omega arith) in
    let other = earlier row.0 m above in
    let first = lt-ltb m row.0 above in
    rw (other, first) refl
put_in_gap (row ∷ rows) m (suc i) s le before after =
    let above = before 0 (omega arith) in
    let other = later row.0 m above in
    let not_before = le-ltb m row.0 (omega (arith, above)) in
    rw (other, not_before) (ap (λ rest. row ∷ rest) (put_in_gap rows m i s (omega arith) (λ j lt. before (suc j) (omega arith)) (λ j ge lt. after (suc j) (omega arith) (omega arith))))

pub found : (rows : Rows) (m i : ℕ) (d : ℕ × PartitionSet) → IsStrictlyIncreasing (map (λ row. row.0) rows) → IsIndexOf rows m i → find_row rows m ≡ Some (get_or rows i d).1
found rows m i d rising index = found_at rows m i d rising index.within index.there

pub not_found : (rows : Rows) (m i : ℕ) → IsGapFor rows m i → find_row rows m ≡ None
not_found rows m i gap = found_none rows m (λ j lt. elim (cases_lt j i) [
  | inl before ↦ let below = gap.before j before in λ e. omega (arith, below, e)
  | inr after ↦ let above = gap.after j after lt in λ e. omega (arith, above, e)
])

pub put_there : (rows : Rows) (m i : ℕ) (s : PartitionSet) → IsStrictlyIncreasing (map (λ row. row.0) rows) → IsIndexOf rows m i → put_row rows m s ≡ set rows i (m, s)
put_there rows m i s rising index = put_at rows m i s rising index.within index.there

pub put_between : (rows : Rows) (m i : ℕ) (s : PartitionSet) → IsGapFor rows m i → put_row rows m s ≡ insert rows i (m, s)
put_between rows m i s gap = put_in_gap rows m i s gap.within gap.before gap.after

-- ---- what a search answers
member_or : (rows : Rows) (k : ℕ) (d : ℕ × PartitionSet) → get_or (map (λ row. row.0) rows) k d.0 ≡ (get_or rows k d).0
member_or [] k d = refl
member_or (row ∷ rows) zero d = refl
member_or (row ∷ rows) (suc k) d = member_or rows k d

never_falls : (ms : List ℕ) → IsStrictlyIncreasing ms → (i j : ℕ) → i ≤ j → j < length ms → get_or ms i 0 ≤ get_or ms j 0
never_falls ms rising i j le lt = elim (cases_lt i j) [
  | inl below ↦ let rises = below_later ms rising i j below lt in omega (arith, rises)
  | inr ge ↦ let e : i ≡ j = omega arith in rw e (omega arith)
]

by_member : (rows : Rows) (m : ℕ) (r : Result ℕ ℕ) → IsBinarySearchResult (λ y. nat_cmp y.0 m) rows r → IsBinarySearchResult (λ y. nat_cmp y m) (map (λ row. row.0) rows) r
by_member rows m (Ok i) h = λ d. ap (λ n. nat_cmp n m) (member_or rows i (d, empty_set 0)) ∙ h (d, empty_set 0)
by_member rows m (Err i) h = λ rises.
    let long = length-map rows (λ (row : ℕ × PartitionSet). row.0) in
    let index : ℕ → ℕ = λ n. ordering_index (nat_cmp n m) in
    let parted = h (λ a b d le lt. rw (← member_or rows a d, ← member_or rows b d) (rises a b d.0 le (omega arith))) in (
      λ k d ge lt. ap (λ n. nat_cmp n m) (member_or rows k (d, empty_set 0)) ∙ parted.0 k (d, empty_set 0) ge lt,
      λ k d ge lt. ap (λ n. nat_cmp n m) (member_or rows k (d, empty_set 0)) ∙ parted.1 k (d, empty_set 0) ge (omega arith),
    )

pub search_indices : (rows : Rows) (m : ℕ) (r : Result ℕ ℕ) → IsStrictlyIncreasing (map (λ row. row.0) rows) → IsBinarySearchResult (λ y. nat_cmp y.0 m) rows r → IfOk r (IsIndexOf rows m) × IfErr r (IsGapFor rows m)
search_indices rows m (Ok i) rising h =
    let long = length-map rows (λ (row : ℕ × PartitionSet). row.0) in
    let s = searched (map (λ row. row.0) rows) m (Ok i) (by_member rows m (Ok i) h) (never_falls (map (λ row. row.0) rows) rising) in
    (record { within = omega (arith, s.0); there = s.1 }, tt)
search_indices rows m (Err i) rising h =
    let long = length-map rows (λ (row : ℕ × PartitionSet). row.0) in
    let s = searched (map (λ row. row.0) rows) m (Err i) (by_member rows m (Err i) h) (never_falls (map (λ row. row.0) rows) rising) in
    (tt, record { within = omega (arith, s.0); before = s.1; after = λ j ge lt. s.2 j ge (omega (arith, lt)) })

-- ---- a member above the last one
above_last : (rows : Rows) (m i : ℕ) (last : ℕ × PartitionSet) → IsStrictlyIncreasing (map (λ row. row.0) rows) → i < length rows → length rows ≡ i + 1 → last ≡ get_or rows i (0, empty_set 0) → last.0 < m → IsGapFor rows m (length rows)
above_last rows m i last rising lt end at above =
    let long = length-map rows (λ (row : ℕ × PartitionSet). row.0) in
    let there : get_or (map (λ row. row.0) rows) i 0 ≡ last.0 = member_or rows i (0, empty_set 0) ∙ ap (λ (row : ℕ × PartitionSet). row.0) (sym at) in
    record {
      within = omega arith;
      before = λ j earlier. let rises = never_falls (map (λ row. row.0) rows) rising j i (omega arith) (omega arith) in omega (arith, rises, there, above);
      after = λ j le less. absurd (omega arith);
    }

pub above_all : (rows : Rows) (m : ℕ) (last : ℕ × PartitionSet) → IsStrictlyIncreasing (map (λ row. row.0) rows) → Some last ≡ slice_get rows (length rows - 1) → last.0 < m → IsGapFor rows m (length rows)
above_all [] m last rising is above = absurd (cc is)
above_all (row ∷ rows) m last rising is above =
    let i : ℕ = length (row ∷ rows) - 1 in
    let at : slice_get (row ∷ rows) i ≡ Some (get_or (row ∷ rows) i (0, empty_set 0)) = slice_get-get_or (row ∷ rows) i (0, empty_set 0) (omega arith) in
    above_last (row ∷ rows) m i last rising (omega arith) (omega arith) (some_is last (get_or (row ∷ rows) i (0, empty_set 0)) (is ∙ at)) above
  where
    some_is : (x y : ℕ × PartitionSet) → Some x ≡ Some y → x ≡ y
    some_is x y e = cc e

-- ---- what a put gives
pub record IsPut (old new : SetRows) (m : ℕ) (s : PartitionSet) : Type 0 where
  pub value : new ≡ with_row old m s
  pub this : row_of new m ≡ Some s
  pub others : (n : ℕ) → n ≢ m → row_of new n ≡ row_of old n
  pub valid : IsValidRows new

puts : (old new : SetRows) (m : ℕ) (s : PartitionSet) → IsValidRows old → partitions_of s ≡ old.partitions → new ≡ with_row old m s → IsPut old new m s
puts old new m s valid below e = record {
  value = e;
  this = ap (λ r. row_of r m) e ∙ row_of-this old m s;
  others = λ n ne. ap (λ r. row_of r n) e ∙ row_of-other old m s n ne;
  valid = subst IsValidRows (sym e) (are_rows-with old m s below valid);
}

pub puts_there : (inside old : SetRows) (m i : ℕ) (s : PartitionSet) → inside ≡ old → IsValidRows inside → partitions_of s ≡ old.partitions → IsIndexOf old.rows m i → IsPut old (record inside { rows = set inside.rows i (m, s) }) m s
puts_there inside old m i s seen valid below index =
    subst (λ (r : SetRows). IsPut r (record inside { rows = set inside.rows i (m, s) }) m s) seen
    (puts inside (record inside { rows = set inside.rows i (m, s) }) m s valid (below ∙ ap (λ (r : SetRows). r.partitions) (sym seen))
    (ap (λ (rows : Rows). record inside { rows = rows }) (sym (put_there inside.rows m i s valid.rising (subst (λ (r : SetRows). IsIndexOf r.rows m i) (sym seen) index)))))

pub puts_between : (inside old : SetRows) (rows : Rows) (m i : ℕ) (s : PartitionSet) → inside ≡ old → IsValidRows inside → partitions_of s ≡ old.partitions → IsGapFor old.rows m i → rows ≡ insert inside.rows i (m, s) → IsPut old (record inside { rows = rows }) m s
puts_between inside old rows m i s seen valid below gap e =
    subst (λ (r : SetRows). IsPut r (record inside { rows = rows }) m s) seen
    (puts inside (record inside { rows = rows }) m s valid (below ∙ ap (λ (r : SetRows). r.partitions) (sym seen))
    (ap (λ (rows : Rows). record inside { rows = rows }) (e ∙ sym (put_between inside.rows m i s (subst (λ (r : SetRows). IsGapFor r.rows m i) (sym seen) gap)))))

-- ---- what a look-up gives
pub found_in : (inside old : SetRows) (m i : ℕ) (row : ℕ × PartitionSet) → inside ≡ old → IsValidRows inside → IsIndexOf old.rows m i → row ≡ get_or inside.rows i row → row_of old m ≡ Some row.1
found_in inside old m i row seen valid index at =
    ap (λ (r : SetRows). row_of r m) (sym seen) ∙ found inside.rows m i row valid.rising (subst (λ (r : SetRows). IsIndexOf r.rows m i) (sym seen) index) ∙ ap (λ (r : ℕ × PartitionSet). Some r.1) (sym at)

pub puts_last : (inside old : SetRows) (rows : Rows) (m : ℕ) (s : PartitionSet) → inside ≡ old → IsValidRows inside → partitions_of s ≡ old.partitions → IsGapFor old.rows m (length old.rows) → rows ≡ inside.rows ++ (m, s) ∷ [] → IsPut old (record inside { rows = rows }) m s
puts_last inside old rows m s seen valid below gap e =
    puts_between inside old rows m (length inside.rows) s seen valid below (subst (λ (r : SetRows). IsGapFor old.rows m (length r.rows)) (sym seen) gap) (e ∙ sym (insert_end inside.rows (m, s)))
