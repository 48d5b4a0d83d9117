-- A member's row with fewer elements.
use Rattle.std.proofs.Common.{ℕ, zero, suc, ◌≡◌, ◌≢◌, ◌<◌, ◌==◌, true, false, List, [], ◌∷◌, length, map, Some, get_or, set, cond, refl, ap, sym, subst, ◌∙◌, arith, inl, inr}
use Rattle.std.specs.Option.{option_map}
use Rattle.std.proofs.lemmas.Bool.{cases_lt}
use Rattle.std.proofs.lemmas.Bool.Decides.{nat_tests}
use Rattle.std.proofs.lemmas.List.{length-map}
use Rattle.bit_planes.specs.PartitionSet.{PartitionSet, partitions_of, minus}
use Rattle.std.specs.List.Sorted.{IsStrictlyIncreasing}
use Rattle.bit_planes.specs.SetRows.{SetRows, IsValidRows, AreOver, find_row, row_of, less_row, with_less}
use Rattle.bit_planes.specs.Private.Indices.{IsIndexOf, IsGapFor, member_at}
use Rattle.bit_planes.proofs.Sets.{partitions_minus}
use Rattle.bit_planes.proofs.RowLaws.{rising_first, rising_rest, over_at}

abbrev Rows : Type 0
Rows = List (ℕ × PartitionSet)

here : (n : ℕ) → (n == n) ≡ true
here n = grind (arith, nat_tests)

not_equal : (m n : ℕ) → m ≢ n → (m == n) ≡ false
not_equal m n ne = grind (arith, nat_tests)

same_id : (m n : ℕ) → (m == n) ≡ true → m ≡ n
same_id m n e = grind (arith, nat_tests)

this_row : (m : ℕ) (s : PartitionSet) (row : ℕ × PartitionSet) → row.0 ≡ m → less_row m s row ≡ (row.0, minus row.1 s)
this_row m s row e = ap (λ b. cond b (row.0, minus row.1 s) row) (ap (λ n. n == m) e ∙ here m)

other_row : (m : ℕ) (s : PartitionSet) (row : ℕ × PartitionSet) → row.0 ≢ m → less_row m s row ≡ row
other_row m s row ne = ap (λ b. cond b (row.0, minus row.1 s) row) (not_equal row.0 m ne)

no_less : (rows : Rows) (m : ℕ) (s : PartitionSet) → ((i : ℕ) → i < length rows → member_at rows i ≢ m) → map (less_row m s) rows ≡ rows
no_less [] m s none = refl
no_less (row ∷ rows) m s none =
    ap (λ r. r ∷ map (less_row m s) rows) (other_row m s row (none 0 (omega arith))) ∙ ap (λ rs. row ∷ rs) (no_less rows m s (λ i lt. none (suc i) (omega arith)))

less_at : (rows : Rows) (m i : ℕ) (s : PartitionSet) (d : ℕ × PartitionSet) → IsStrictlyIncreasing (map (λ row. row.0) rows) → i < length rows → member_at rows i ≡ m → set rows i ((get_or rows i d).0, minus (get_or rows i d).1 s) ≡ map (less_row m s) rows
less_at [] m i s d rising lt e = absurd (omega arith)
less_at (row ∷ rows) m zero s d rising lt e =
    let long = length-map rows (λ (row : ℕ × PartitionSet). row.0) in
    let rest : map (less_row m s) rows ≡ rows = no_less rows m s (λ i below. let above = rising_first row.0 (map (λ row. row.0) rows) rising i (omega arith) in omega (arith, above, e)) in
    ap (λ r. r ∷ rows) (sym (this_row m s row e)) ∙ ap (λ rs. less_row m s row ∷ rs) (sym rest)
less_at (row ∷ rows) m (suc i) s d rising lt e =
    let long = length-map rows (λ (row : ℕ × PartitionSet). row.0) in
    let above = rising_first row.0 (map (λ row. row.0) rows) rising i (omega arith) in
    ap (λ rs. row ∷ rs) (less_at rows m i s d (rising_rest row.0 (map (λ row. row.0) rows) rising) (omega arith) e) ∙ ap (λ r. r ∷ map (less_row m s) rows) (sym (other_row m s row (omega (arith, above, e))))

-- ---- what stays
less_number : (m : ℕ) (s : PartitionSet) (row : ℕ × PartitionSet) → (less_row m s row).0 ≡ row.0
less_number m s row = elim (row.0 == m) as (λ b. (cond b (row.0, minus row.1 s) row).0 ≡ row.0) [ true ↦ refl | false ↦ refl ]

less_numbers : (rows : Rows) (m : ℕ) (s : PartitionSet) → map (λ row. row.0) (map (less_row m s) rows) ≡ map (λ row. row.0) rows
less_numbers [] m s = refl
less_numbers (row ∷ rows) m s = ap (λ n. n ∷ map (λ row. row.0) (map (less_row m s) rows)) (less_number m s row) ∙ ap (λ ns. row.0 ∷ ns) (less_numbers rows m s)

less_over : (p : ℕ) (rows : Rows) (m : ℕ) (s : PartitionSet) → AreOver p rows → AreOver p (map (less_row m s) rows)
less_over p [] m s over = tt
less_over p (row ∷ rows) m s over = (
  elim (row.0 == m) as (λ b. partitions_of (cond b (row.0, minus row.1 s) row).1 ≡ p) [ true ↦ partitions_minus row.1 s ∙ over.0 | false ↦ over.0 ],
  less_over p rows m s over.1,
)

-- ---- look-ups
found_less : (rows : Rows) (m : ℕ) (s : PartitionSet) → find_row (map (less_row m s) rows) m ≡ option_map (λ row. minus row s) (find_row rows m)
found_less [] m s = refl
found_less (row ∷ rows) m s =
    elim (row.0 == m) as (λ b. (row.0 == m) ≡ b → cond ((cond b (row.0, minus row.1 s) row).0 == m) (Some (cond b (row.0, minus row.1 s) row).1) (find_row (map (less_row m s) rows) m) ≡ option_map (λ r. minus r s) (cond b (Some row.1) (find_row rows m))) [
      | true ↦ λ e. ap (λ b. cond b (Some (minus row.1 s)) (find_row (map (less_row m s) rows) m)) e
      | false ↦ λ e. ap (λ b. cond b (Some row.1) (find_row (map (less_row m s) rows) m)) e ∙ found_less rows m s
    ] refl

found_of_others : (rows : Rows) (m : ℕ) (s : PartitionSet) (n : ℕ) → n ≢ m → find_row (map (less_row m s) rows) n ≡ find_row rows n
found_of_others [] m s n ne = refl
found_of_others (row ∷ rows) m s n ne =
    elim (row.0 == m) as (λ b. (row.0 == m) ≡ b → cond ((cond b (row.0, minus row.1 s) row).0 == n) (Some (cond b (row.0, minus row.1 s) row).1) (find_row (map (less_row m s) rows) n) ≡ cond (row.0 == n) (Some row.1) (find_row rows n)) [
      | true ↦ λ e.
          let other : (row.0 == n) ≡ false = not_equal row.0 n (λ same. ne (sym same ∙ same_id row.0 m e)) in
          ap (λ b. cond b (Some (minus row.1 s)) (find_row (map (less_row m s) rows) n)) other ∙ (found_of_others rows m s n ne ∙ sym (ap (λ b. cond b (Some row.1) (find_row rows n)) other))
      | false ↦ λ e. ap (λ o. cond (row.0 == n) (Some row.1) o) (found_of_others rows m s n ne)
    ] refl

-- ---- what is taken out
pub record IsLess (old new : SetRows) (m : ℕ) (s : PartitionSet) : Type 0 where
  pub value : new ≡ with_less old m s
  pub this : row_of new m ≡ option_map (λ row. minus row s) (row_of old m)
  pub others : (n : ℕ) → n ≢ m → row_of new n ≡ row_of old n
  pub valid : IsValidRows new

less : (old new : SetRows) (m : ℕ) (s : PartitionSet) → IsValidRows old → new ≡ with_less old m s → IsLess old new m s
less old new m s valid e = record {
  value = e;
  this = ap (λ r. row_of r m) e ∙ found_less old.rows m s;
  others = λ n ne. ap (λ r. row_of r n) e ∙ found_of_others old.rows m s n ne;
  valid = subst IsValidRows (sym e) (record {
    some = valid.some;
    few = valid.few;
    rising = subst IsStrictlyIncreasing (sym (less_numbers old.rows m s)) valid.rising;
    over = less_over old.partitions old.rows m s valid.over;
  });
}

pub less_there : (inside old : SetRows) (m i : ℕ) (s t : PartitionSet) (row : ℕ × PartitionSet) → inside ≡ old → IsValidRows inside → IsIndexOf old.rows m i → row ≡ get_or inside.rows i row → t ≡ minus row.1 s → IsLess old (record inside { rows = set inside.rows i (row.0, t) }) m s
less_there inside old m i s t row seen valid index at less_is =
    let here : IsIndexOf inside.rows m i = subst (λ (r : SetRows). IsIndexOf r.rows m i) (sym seen) index in
    let element : (row.0, t) ≡ ((get_or inside.rows i row).0, minus (get_or inside.rows i row).1 s) = ap (λ x. (row.0, x)) less_is ∙ ap (λ (r : ℕ × PartitionSet). (r.0, minus r.1 s)) at in
    subst (λ (r : SetRows). IsLess r (record inside { rows = set inside.rows i (row.0, t) }) m s) seen
    (less inside (record inside { rows = set inside.rows i (row.0, t) }) m s valid
    (ap (λ (x : ℕ × PartitionSet). record inside { rows = set inside.rows i x }) element
    ∙ ap (λ (rows : Rows). record inside { rows = rows }) (less_at inside.rows m i s row valid.rising here.within here.there)))

pub below_there : (inside old : SetRows) (m i : ℕ) (row : ℕ × PartitionSet) → inside ≡ old → IsValidRows inside → IsIndexOf old.rows m i → row ≡ get_or inside.rows i row → partitions_of row.1 ≡ old.partitions
below_there inside old m i row seen valid index at =
    let here : IsIndexOf inside.rows m i = subst (λ (r : SetRows). IsIndexOf r.rows m i) (sym seen) index in
    ap (λ (r : ℕ × PartitionSet). partitions_of r.1) at ∙ over_at inside.partitions inside.rows i row valid.over here.within ∙ ap (λ (r : SetRows). r.partitions) seen

pub less_nowhere : (old : SetRows) (m i : ℕ) (s : PartitionSet) → IsValidRows old → IsGapFor old.rows m i → IsLess old old m s
less_nowhere old m i s valid gap =
    let none : map (less_row m s) old.rows ≡ old.rows = no_less old.rows m s (λ j lt. elim (cases_lt j i) [
      | inl before ↦ let below = gap.before j before in λ e. omega (arith, below, e)
      | inr after ↦ let above = gap.after j after lt in λ e. omega (arith, above, e)
    ]) in
    less old old m s valid (ap (λ (rows : Rows). record old { rows = rows }) (sym none))
