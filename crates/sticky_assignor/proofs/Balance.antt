-- The target is balanced.
use Rattle.std.proofs.Common.{ℕ, zero, suc, ◌≡◌, ◌+◌, ◌-◌, ◌*◌, ◌/◌, ◌%◌, ◌<◌, ◌≤◌, true, false, List, [], ◌∷◌, length, min, suc-mul, refl, ap, sym, ◌∙◌, arith, cond, inl, inr}
use Rattle.std.proofs.lemmas.List.Sums.{sum_by-cons}
use Rattle.std.proofs.lemmas.Bool.{cases_lt}
use Rattle.bit_planes.specs.PartitionSet.{PartitionSet, partitions_of, is_in, one, size, full_set, union, minus, lowest}
use Rattle.bit_planes.proofs.Sets.{one_le, one_or, one_in_minus, in_union, in_full, partitions_full, partitions_lowest, partitions_minus, lowest_splits, size_lowest, size_union, size_minus, size_full}
use Rattle.sticky_assignor.specs.Balanced.{holders, size_at, IsBalanced, AreDisjoint, AreBelow}
use Rattle.sticky_assignor.specs.Private.Filling.{one_of, shares, quotas, retaining, free_of, gaps, filled, filled_up, filling}
use Rattle.sticky_assignor.specs.Target.{is_heavy, heavies}
use Rattle.sticky_assignor.proofs.Rows.{one_none, size_beyond, none_past}

abbrev pub total : List ℕ → ℕ
total [] = 0
total (x ∷ xs) = x + total xs

abbrev pub sizes : List PartitionSet → ℕ
sizes [] = 0
sizes (row ∷ rows) = size row + sizes rows

abbrev pub Sized : List ℕ → List PartitionSet → Type 0
Sized [] [] = Unit {0}
Sized [] (row ∷ rows) = ⊥
Sized (q ∷ qs) [] = ⊥
Sized (q ∷ qs) (row ∷ rows) = (size row ≡ q) × Sized qs rows

-- each row is within its quota
abbrev pub Fits : List ℕ → List PartitionSet → Type 0
Fits [] [] = Unit {0}
Fits [] (row ∷ rows) = ⊥
Fits (q ∷ qs) [] = ⊥
Fits (q ∷ qs) (row ∷ rows) = (size row ≤ q) × Fits qs rows

-- the rows and what is free are disjoint
abbrev Clear : List PartitionSet → PartitionSet → Type 0
Clear rows free = (q : ℕ) → holders rows q + one (is_in free q) ≤ 1

clear_rest : (g : ℕ) (k : PartitionSet) (ks : List PartitionSet) (free : PartitionSet) → Clear (k ∷ ks) free → Clear ks (minus free (lowest g free))
clear_rest g k ks free clear q = let h = clear q in omega (arith, lowest_splits g free q)

disjoint_low : (g : ℕ) (k : PartitionSet) (ks : List PartitionSet) (free : PartitionSet) → Clear (k ∷ ks) free → (q : ℕ) → one (is_in k q) + one (is_in (lowest g free) q) ≤ 1
disjoint_low g k ks free clear q = let h = clear q in omega (arith, lowest_splits g free q)

filled_holders : (p : ℕ) (free : PartitionSet) (gs : List ℕ) (ks : List PartitionSet) → length gs ≡ length ks → partitions_of free ≡ p → AreBelow p ks → Clear ks free → size free ≤ total gs → (q : ℕ) → holders (filled free gs ks) q ≡ holders ks q + one (is_in free q)
filled_holders p free [] [] len long over clear le q = omega (arith, one_none free q (omega arith))
filled_holders p free [] (k ∷ ks) len long over clear le q = absurd (omega arith)
filled_holders p free (g ∷ gs) [] len long over clear le q = absurd (omega arith)
filled_holders p free (g ∷ gs) (k ∷ ks) len long over clear le q =
    let low : PartitionSet = lowest g free in
    let rest : PartitionSet = minus free low in
    let both : one (is_in (union k low) q) ≡ one (is_in k q) + one (is_in low q) = rw (in_union k low q (over.0 ∙ sym long ∙ sym (partitions_lowest g free))) (one_or (is_in k q) (is_in low q) (disjoint_low g k ks free clear q)) in
    let ih : holders (filled rest gs ks) q ≡ holders ks q + one (is_in rest q) = filled_holders p rest gs ks (omega arith) (partitions_minus free low ∙ long) over.1 (clear_rest g k ks free clear) (omega (arith, size_beyond g free, size_lowest g free)) q in
    omega (arith, lowest_splits g free q)

filled_sized : (p : ℕ) (free : PartitionSet) (qs : List ℕ) (ks : List PartitionSet) → Fits qs ks → partitions_of free ≡ p → AreBelow p ks → Clear ks free → total (gaps qs ks) ≤ size free → Sized qs (filled free (gaps qs ks) ks)
filled_sized p free [] [] fits long over clear le = tt
filled_sized p free [] (k ∷ ks) fits long over clear le = absurd fits
filled_sized p free (q ∷ qs) [] fits long over clear le = absurd fits
filled_sized p free (q ∷ qs) (k ∷ ks) fits long over clear le =
    let g : ℕ = q - size k in
    let low : PartitionSet = lowest g free in
    let sized : size (union k low) ≡ size k + size low = size_union k low (over.0 ∙ sym long ∙ sym (partitions_lowest g free)) (disjoint_low g k ks free clear) in (
      omega (arith, size_lowest g free, fits.0),
      filled_sized p (minus free low) qs ks fits.1 (partitions_minus free low ∙ long) over.1 (clear_rest g k ks free clear) (omega (arith, size_beyond g free, size_lowest g free)),
    )

-- ---- what is kept
pub retaining_over : (p : ℕ) (qs : List ℕ) (rows : List PartitionSet) → AreBelow p rows → AreBelow p (retaining qs rows)
retaining_over p [] rows over = tt
retaining_over p (q ∷ qs) [] over = tt
retaining_over p (q ∷ qs) (row ∷ rows) over = (partitions_lowest q row ∙ over.0, retaining_over p qs rows over.1)

pub retaining_fits : (qs : List ℕ) (rows : List PartitionSet) → length qs ≡ length rows → Fits qs (retaining qs rows)
retaining_fits [] [] len = tt
retaining_fits [] (row ∷ rows) len = absurd (omega arith)
retaining_fits (q ∷ qs) [] len = absurd (omega arith)
retaining_fits (q ∷ qs) (row ∷ rows) len = (omega (arith, size_lowest q row), retaining_fits qs rows (omega arith))

retaining_holders : (qs : List ℕ) (rows : List PartitionSet) (n : ℕ) → holders (retaining qs rows) n ≤ holders rows n
retaining_holders [] rows n = omega arith
retaining_holders (q ∷ qs) [] n = omega arith
retaining_holders (q ∷ qs) (row ∷ rows) n = omega (arith, retaining_holders qs rows n, lowest_splits q row n)

-- ---- what is free
pub partitions_free : (p : ℕ) (rows : List PartitionSet) → partitions_of (free_of p rows) ≡ p
partitions_free p [] = partitions_full p
partitions_free p (row ∷ rows) = partitions_minus (free_of p rows) row ∙ partitions_free p rows

abbrev pub InAll : ℕ → List PartitionSet → Type 0
InAll p rows = (q : ℕ) → holders rows q ≤ one (is_in (full_set p) q)

pub free_holders : (p : ℕ) (rows : List PartitionSet) → InAll p rows → (q : ℕ) → holders rows q + one (is_in (free_of p rows) q) ≡ one (is_in (full_set p) q)
free_holders p [] within q = omega arith
free_holders p (row ∷ rows) within q =
    let w = within q in
    let ih : holders rows q + one (is_in (free_of p rows) q) ≡ one (is_in (full_set p) q) = free_holders p rows (λ n. let v = within n in omega arith) q in
    omega (arith, one_in_minus (free_of p rows) row q (omega arith))

pub size_free : (p : ℕ) (rows : List PartitionSet) → AreBelow p rows → InAll p rows → size (free_of p rows) + sizes rows ≡ p
size_free p [] over within = omega (arith, size_full p)
size_free p (row ∷ rows) over within =
    let in_rest : InAll p rows = λ n. let v = within n in omega arith in
    let held : (n : ℕ) → one (is_in row n) ≤ one (is_in (free_of p rows) n) = λ n. let v = within n in omega (arith, free_holders p rows in_rest n) in
    omega (arith, size_minus (free_of p rows) row (partitions_free p rows ∙ sym over.0) held, size_free p rows over.1 in_rest)

pub one_full : (p q : ℕ) → q < p → one (is_in (full_set p) q) ≡ 1
one_full p q lt = ap one (in_full p q lt)

pub in_all : (p : ℕ) (rows : List PartitionSet) → AreBelow p rows → AreDisjoint rows → InAll p rows
in_all p rows over disjoint q =
    let a = disjoint q in
    elim (cases_lt q p) [
      | inl lt ↦ omega (arith, one_full p q lt)
      | inr ge ↦ omega (arith, none_past p rows q over ge)
    ]

-- ---- sums
total_gaps : (qs : List ℕ) (ks : List PartitionSet) → Fits qs ks → total (gaps qs ks) + sizes ks ≡ total qs
total_gaps [] [] fits = refl
total_gaps [] (k ∷ ks) fits = absurd fits
total_gaps (q ∷ qs) [] fits = absurd fits
total_gaps (q ∷ qs) (k ∷ ks) fits = let f = fits.0 in omega (arith, total_gaps qs ks fits.1)

pub length_shares : (share h o : ℕ) (rows : List PartitionSet) → length (shares share h o rows) ≡ length rows
length_shares share h o [] = refl
length_shares share h o (row ∷ rows) =
    elim (is_heavy share row) as (λ b. length (cond b ((share + one_of h) ∷ shares share (h - 1) o rows) ((share + one_of o) ∷ shares share h (o - 1) rows)) ≡ suc (length rows)) [
      | true ↦ ap (λ n. suc n) (length_shares share (h - 1) o rows)
      | false ↦ ap (λ n. suc n) (length_shares share h (o - 1) rows)
    ]

pub heavies_cons : (share : ℕ) (row : PartitionSet) (rows : List PartitionSet) → heavies share (row ∷ rows) ≡ cond (is_heavy share row) 1 0 + heavies share rows
heavies_cons share row rows = sum_by-cons (λ r. cond (is_heavy share r) 1 0) row rows

pub heavies_le : (share : ℕ) (rows : List PartitionSet) → heavies share rows ≤ length rows
heavies_le share [] = omega arith
heavies_le share (row ∷ rows) = grind (arith, heavies_cons share row rows, heavies_le share rows)

one_of_is : (n : ℕ) → one_of n + (n - 1) ≡ n
one_of_is zero = refl
one_of_is (suc n) = omega arith

one_of_le : (n : ℕ) → one_of n ≤ 1
one_of_le zero = omega arith
one_of_le (suc n) = omega arith

total_shares : (share h o : ℕ) (rows : List PartitionSet) → total (shares share h o rows) ≡ length rows * share + min h (heavies share rows) + min o (length rows - heavies share rows)
total_shares share h o [] = omega arith
total_shares share h o (row ∷ rows) =
    let le : heavies share rows ≤ length rows = heavies_le share rows in
    let step : suc (length rows) * share ≡ length rows * share + share = suc-mul (length rows) share in
    elim (is_heavy share row) as (λ b. heavies share (row ∷ rows) ≡ cond b 1 0 + heavies share rows → total (cond b ((share + one_of h) ∷ shares share (h - 1) o rows) ((share + one_of o) ∷ shares share h (o - 1) rows)) ≡ suc (length rows) * share + min h (heavies share (row ∷ rows)) + min o (suc (length rows) - heavies share (row ∷ rows))) [
      | true ↦ λ e. let ih : total (shares share (h - 1) o rows) ≡ length rows * share + min (h - 1) (heavies share rows) + min o (length rows - heavies share rows) = total_shares share (h - 1) o rows in omega (arith, one_of_is h, one_of_le h)
      | false ↦ λ e. let ih : total (shares share h (o - 1) rows) ≡ length rows * share + min h (heavies share rows) + min (o - 1) (length rows - heavies share rows) = total_shares share h (o - 1) rows in omega (arith, one_of_is o, one_of_le o)
    ] (heavies_cons share row rows)

pub total_quotas : (p : ℕ) (rows : List PartitionSet) → 0 < length rows → total (quotas p rows) ≡ p
total_quotas p rows some =
    let n : ℕ = length rows in
    let share : ℕ = p / n in
    let more : ℕ = p % n in
    let h : ℕ = min more (heavies share rows) in
    let t : total (shares share h (more - h) rows) ≡ n * share + min h (heavies share rows) + min (more - h) (n - heavies share rows) = total_shares share h (more - h) rows in
    let lt : more < n = omega arith in
    let all : n * share + more ≡ p = omega arith in
    omega (arith, heavies_le share rows)

-- each number is the share or one more
abbrev pub Within : ℕ → List ℕ → Type 0
Within share [] = Unit {0}
Within share (q ∷ qs) = (share ≤ q) × (q ≤ share + 1) × Within share qs

shares_within : (share h o : ℕ) (rows : List PartitionSet) → Within share (shares share h o rows)
shares_within share h o [] = tt
shares_within share h o (row ∷ rows) =
    elim (is_heavy share row) as (λ b. Within share (cond b ((share + one_of h) ∷ shares share (h - 1) o rows) ((share + one_of o) ∷ shares share h (o - 1) rows))) [
      | true ↦ (omega arith, omega (arith, one_of_le h), shares_within share (h - 1) o rows)
      | false ↦ (omega arith, omega (arith, one_of_le o), shares_within share h (o - 1) rows)
    ]

size_within : (share : ℕ) (qs : List ℕ) (rows : List PartitionSet) (i : ℕ) → Within share qs → Sized qs rows → i < length rows → (share ≤ size_at rows i) × (size_at rows i ≤ share + 1)
size_within share [] [] i within sized lt = absurd (omega arith)
size_within share [] (row ∷ rows) i within sized lt = absurd sized
size_within share (q ∷ qs) [] i within sized lt = absurd sized
size_within share (q ∷ qs) (row ∷ rows) zero within sized lt =
    let e = sized.0 in let a = within.0 in let b = within.1 in (omega arith, omega arith)
size_within share (q ∷ qs) (row ∷ rows) (suc i) within sized lt = size_within share qs rows i within.2 sized.1 (omega arith)

pub length_gaps : (qs : List ℕ) (ks : List PartitionSet) → Fits qs ks → length (gaps qs ks) ≡ length ks
length_gaps [] [] fits = refl
length_gaps [] (k ∷ ks) fits = absurd fits
length_gaps (q ∷ qs) [] fits = absurd fits
length_gaps (q ∷ qs) (k ∷ ks) fits = ap (λ n. suc n) (length_gaps qs ks fits.1)

filled_up_balanced : (p share : ℕ) (qs : List ℕ) (retained : List PartitionSet) → Within share qs → total qs ≡ p → Fits qs retained → AreBelow p retained → AreDisjoint retained → IsBalanced p (filled_up p qs retained)
filled_up_balanced p share qs retained within sum_is fits over disjoint =
    let free : PartitionSet = free_of p retained in
    let inside : InAll p retained = in_all p retained over disjoint in
    let clear : Clear retained free = λ q. omega (arith, free_holders p retained inside q, one_le (is_in (full_set p) q)) in
    let capacity : total (gaps qs retained) ≡ size free = omega (arith, total_gaps qs retained fits, size_free p retained over inside) in
    let sized : Sized qs (filled free (gaps qs retained) retained) = filled_sized p free qs retained fits (partitions_free p retained) over clear (omega arith) in record {
      once = λ q lt. omega (arith, filled_holders p free (gaps qs retained) retained (length_gaps qs retained fits) (partitions_free p retained) over clear (omega arith) q, free_holders p retained inside q, ap one (in_full p q lt));
      even = λ i j a b.
          let x = size_within share qs (filled free (gaps qs retained) retained) i within sized a in
          let y = size_within share qs (filled free (gaps qs retained) retained) j within sized b in
          omega arith;
    }

pub filling_balanced : (p : ℕ) (owned : List PartitionSet) → 0 < length owned → AreBelow p owned → AreDisjoint owned → IsBalanced p (filling p owned)
filling_balanced p owned some over disjoint =
    let share : ℕ = p / length owned in
    let h : ℕ = min (p % length owned) (heavies share owned) in
    let o : ℕ = p % length owned - h in
    filled_up_balanced p share (quotas p owned) (retaining (quotas p owned) owned) (shares_within share h o owned) (total_quotas p owned some) (retaining_fits (quotas p owned) owned (length_shares share h o owned)) (retaining_over p (quotas p owned) owned over) (λ q. omega (arith, disjoint q, retaining_holders (quotas p owned) owned q))
