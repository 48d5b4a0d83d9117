-- Rows that fit their quotas are kept whole.
use Rattle.std.proofs.Common.{ℕ, zero, suc, ◌≡◌, ◌+◌, ◌-◌, ◌*◌, ◌/◌, ◌%◌, ◌<◌, ◌≤◌, Bool, true, false, ◌&&◌, List, [], ◌∷◌, length, min, suc-mul, refl, ap, ◌∙◌, arith, cond}
use Rattle.std.specs.Prelude.{nat_lt}
use Rattle.std.proofs.lemmas.Bool.{lt-ltb}
use Rattle.std.proofs.lemmas.Bool.Decides.{nat_tests}
use Rattle.bit_planes.specs.PartitionSet.{PartitionSet, is_in, rank, size, lowest}
use Rattle.bit_planes.proofs.Sets.{same_set, partitions_lowest, in_lowest, rank_below}
use Rattle.sticky_assignor.specs.Private.Filling.{one_of, shares, quotas, retaining}
use Rattle.sticky_assignor.specs.Target.{is_heavy, heavies}
use Rattle.sticky_assignor.proofs.Balance.{total, Within, Fits, heavies_cons}

all_below : (x : Bool) (r n m : ℕ) → (x ≡ true → r < m) → m ≤ n → (x && nat_lt r n) ≡ x
all_below true r n m below le = let lt = below refl in lt-ltb r n (omega arith)
all_below false r n m below le = refl

pub lowest_all : (n : ℕ) (s : PartitionSet) → size s ≤ n → lowest n s ≡ s
lowest_all n s le =
    same_set (lowest n s) s (partitions_lowest n s) (λ q lt. in_lowest n s q ∙ all_below (is_in s q) (rank s q) n (size s) (rank_below s q) le)

pub retaining_all : (qs : List ℕ) (rows : List PartitionSet) → Fits qs rows → retaining qs rows ≡ rows
retaining_all [] [] fits = refl
retaining_all [] (row ∷ rows) fits = absurd fits
retaining_all (q ∷ qs) [] fits = absurd fits
retaining_all (q ∷ qs) (row ∷ rows) fits = rw (lowest_all q row fits.0) (ap (λ r. row ∷ r) (retaining_all qs rows fits.1))

-- how many quotas are above the share
abbrev pub overs : ℕ → List ℕ → ℕ
overs share [] = 0
overs share (q ∷ qs) = (q - share) + overs share qs

pub total_overs : (share : ℕ) (qs : List ℕ) → Within share qs → total qs ≡ length qs * share + overs share qs
total_overs share [] within = omega arith
total_overs share (q ∷ qs) within =
    let a = within.0 in
    let step : suc (length qs) * share ≡ length qs * share + share = suc-mul (length qs) share in
    omega (arith, total_overs share qs within.2)

heavies_overs : (share : ℕ) (qs : List ℕ) (rows : List PartitionSet) → Fits qs rows → heavies share rows ≤ overs share qs
heavies_overs share [] [] fits = omega arith
heavies_overs share [] (row ∷ rows) fits = absurd fits
heavies_overs share (q ∷ qs) [] fits = absurd fits
heavies_overs share (q ∷ qs) (row ∷ rows) fits =
    let le = fits.0 in
    let ih : heavies share rows ≤ overs share qs = heavies_overs share qs rows fits.1 in
    let e : heavies share (row ∷ rows) ≡ cond (is_heavy share row) 1 0 + heavies share rows = heavies_cons share row rows in
    grind (arith, nat_tests)

fits_shares : (share h o : ℕ) (qs : List ℕ) (rows : List PartitionSet) → Within share qs → Fits qs rows → heavies share rows ≤ h → Fits (shares share h o rows) rows
fits_shares share h o [] [] within fits le = tt
fits_shares share h o [] (row ∷ rows) within fits le = absurd fits
fits_shares share h o (q ∷ qs) [] within fits le = absurd fits
fits_shares share h o (q ∷ qs) (row ∷ rows) within fits le =
    let small = fits.0 in
    let most = within.1 in
    let e : heavies share (row ∷ rows) ≡ cond (is_heavy share row) 1 0 + heavies share rows = heavies_cons share row rows in
    elim (is_heavy share row) as (λ b. is_heavy share row ≡ b → heavies share (row ∷ rows) ≡ cond b 1 0 + heavies share rows → Fits (cond b ((share + one_of h) ∷ shares share (h - 1) o rows) ((share + one_of o) ∷ shares share h (o - 1) rows)) (row ∷ rows)) [
      | true ↦ λ is e. (one_more h (omega arith) (omega arith), fits_shares share (h - 1) o qs rows within.2 fits.1 (omega arith))
      | false ↦ λ is e. (let light : size row ≤ share = grind (arith, nat_tests) in omega arith, fits_shares share h (o - 1) qs rows within.2 fits.1 (omega arith))
    ] refl e
  where
    one_more : (h : ℕ) → 0 < h → size row ≤ share + 1 → size row ≤ share + one_of h
    one_more zero lt le = absurd (omega arith)
    one_more (suc h) lt le = le

pub fits_quotas : (p : ℕ) (qs : List ℕ) (rows : List PartitionSet) → 0 < length rows → length qs ≡ length rows → Within (p / length rows) qs → total qs ≡ p → Fits qs rows → Fits (quotas p rows) rows
fits_quotas p qs rows some len within sum_is fits =
    let n : ℕ = length rows in
    let share : ℕ = p / n in
    let lt : p % n < n = omega arith in
    let all : n * share + p % n ≡ p = omega arith in
    let t : total qs ≡ length qs * share + overs share qs = total_overs share qs within in
    let same : length qs * share ≡ n * share = ap (λ k. k * share) len in
    let h : ℕ = min (p % n) (heavies share rows) in
    fits_shares share h (p % n - h) qs rows within fits (omega (arith, heavies_overs share qs rows fits))
