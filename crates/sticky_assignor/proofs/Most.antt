-- No balanced rows leave more with their owners than the target.
use Rattle.std.proofs.Common.{ℕ, zero, suc, ◌≡◌, ◌+◌, ◌-◌, ◌*◌, ◌/◌, ◌%◌, ◌<◌, ◌≤◌, Bool, true, false, ◌||◌, ◌&&◌, List, [], ◌∷◌, length, min, refl, ap, sym, ◌∙◌, arith, cond}
use Rattle.std.specs.Prelude.{nat_lt}
use Rattle.std.proofs.lemmas.Bool.Decides.{nat_tests}
use Rattle.bit_planes.specs.PartitionSet.{PartitionSet, partitions_of, is_in, one, rank, size, union, minus, lowest}
use Rattle.bit_planes.proofs.Sets.{how_many-same, size_is, in_lowest, in_union, partitions_lowest, partitions_minus, size_lowest}
use Rattle.sticky_assignor.specs.Balanced.{AreBelow, IsBalanced}
use Rattle.sticky_assignor.specs.Private.Filling.{one_of, shares, quotas, retaining, free_of, gaps, filled, filling}
use Rattle.sticky_assignor.specs.Target.{is_heavy, heavies}
use Rattle.sticky_assignor.specs.Retained.{in_both, retained}
use Rattle.sticky_assignor.proofs.Rows.{how_many-most}
use Rattle.sticky_assignor.proofs.Balance.{total, Within, heavies_cons, length_shares, length_gaps, retaining_fits, partitions_free}
use Rattle.sticky_assignor.proofs.Ranks.{length_retaining}
use Rattle.sticky_assignor.proofs.Retains.{overs, total_overs}
use Rattle.sticky_assignor.proofs.Even.{sizes_of, length_sizes, total_sizes, sizes_sum, balanced_within}

-- what can stay within quotas
abbrev reach : List ℕ → List PartitionSet → ℕ
reach [] owned = 0
reach (q ∷ qs) [] = 0
reach (q ∷ qs) (own ∷ owned) = min q (size own) + reach qs owned

-- what can stay within even shares
abbrev base : ℕ → List PartitionSet → ℕ
base share [] = 0
base share (own ∷ owned) = min share (size own) + base share owned

-- ---- no rows keep more than their sizes can reach
and_left : (x y : Bool) → one (x && y) ≤ one x
and_left true true = omega arith
and_left true false = omega arith
and_left false y = omega arith

and_right : (x y : Bool) → one (x && y) ≤ one y
and_right true y = omega arith
and_right false true = omega arith
and_right false false = omega arith

both_left : (s t : PartitionSet) → in_both s t ≤ size s
both_left s t = rw (size_is s) (how_many-most (partitions_of s) (λ q. is_in s q && is_in t q) (is_in s) (λ q. and_left (is_in s q) (is_in t q)))

both_right : (s t : PartitionSet) → partitions_of s ≡ partitions_of t → in_both s t ≤ size t
both_right s t len = rw (size_is t, sym len) (how_many-most (partitions_of s) (λ q. is_in s q && is_in t q) (is_in t) (λ q. and_right (is_in s q) (is_in t q)))

retained_reach : (p : ℕ) (owned rows : List PartitionSet) → AreBelow p owned → AreBelow p rows → length rows ≡ length owned → retained owned rows ≤ reach (sizes_of rows) owned
retained_reach p [] [] oo or len = omega arith
retained_reach p [] (row ∷ rows) oo or len = absurd (omega arith)
retained_reach p (own ∷ owned) [] oo or len = absurd (omega arith)
retained_reach p (own ∷ owned) (row ∷ rows) oo or len = omega (arith, both_left own row, both_right own row (oo.0 ∙ sym or.0), retained_reach p owned rows oo.1 or.1 (omega arith))

-- ---- balanced sizes reach the even shares, and one more of some heavy ones
reach_overs : (share : ℕ) (qs : List ℕ) (owned : List PartitionSet) → Within share qs → length qs ≡ length owned → reach qs owned ≤ base share owned + overs share qs
reach_overs share [] [] within len = omega arith
reach_overs share [] (own ∷ owned) within len = absurd (omega arith)
reach_overs share (q ∷ qs) [] within len = absurd (omega arith)
reach_overs share (q ∷ qs) (own ∷ owned) within len =
    let a = within.0 in
    omega (arith, reach_overs share qs owned within.2 (omega arith))

reach_heavies : (share : ℕ) (qs : List ℕ) (owned : List PartitionSet) → Within share qs → length qs ≡ length owned → reach qs owned ≤ base share owned + heavies share owned
reach_heavies share [] [] within len = omega arith
reach_heavies share [] (own ∷ owned) within len = absurd (omega arith)
reach_heavies share (q ∷ qs) [] within len = absurd (omega arith)
reach_heavies share (q ∷ qs) (own ∷ owned) within len =
    let b = within.1 in
    let ih : reach qs owned ≤ base share owned + heavies share owned = reach_heavies share qs owned within.2 (omega arith) in
    elim (is_heavy share own) as (λ b. is_heavy share own ≡ b → heavies share (own ∷ owned) ≡ cond b 1 0 + heavies share owned → min q (size own) + reach qs owned ≤ min share (size own) + base share owned + heavies share (own ∷ owned)) [
      | true ↦ λ is e. omega arith
      | false ↦ λ is e. let light : size own ≤ share = grind (arith, nat_tests) in omega arith
    ] refl (heavies_cons share own owned)

-- ---- the quotas of the target reach all of that
reach_shares : (share h o : ℕ) (owned : List PartitionSet) → base share owned + min h (heavies share owned) ≤ reach (shares share h o owned) owned
reach_shares share h o [] = omega arith
reach_shares share h o (own ∷ owned) =
    elim (is_heavy share own) as (λ b. is_heavy share own ≡ b → heavies share (own ∷ owned) ≡ cond b 1 0 + heavies share owned → min share (size own) + base share owned + min h (heavies share (own ∷ owned)) ≤ reach (cond b ((share + one_of h) ∷ shares share (h - 1) o owned) ((share + one_of o) ∷ shares share h (o - 1) owned)) (own ∷ owned)) [
      | true ↦ λ is e. let heavy : share < size own = grind (arith, nat_tests) in one_more h heavy e (reach_shares share (h - 1) o owned)
      | false ↦ λ is e. omega (arith, reach_shares share h (o - 1) owned)
    ] refl (heavies_cons share own owned)
  where
    one_more : (h : ℕ) → share < size own → heavies share (own ∷ owned) ≡ 1 + heavies share owned → base share owned + min (h - 1) (heavies share owned) ≤ reach (shares share (h - 1) o owned) owned → min share (size own) + base share owned + min h (heavies share (own ∷ owned)) ≤ min (share + one_of h) (size own) + reach (shares share (h - 1) o owned) owned
    one_more zero heavy e ih = omega arith
    one_more (suc h) heavy e ih = omega arith

-- ---- the target keeps what its quotas reach
and_within : (x y : Bool) → (y ≡ true → x ≡ true) → (x && y) ≡ y
and_within true y h = refl
and_within false true h = h refl
and_within false false h = refl

in_own : (x y z : Bool) → z ≡ (x && y) → z ≡ true → x ≡ true
in_own true y z e h = refl
in_own false y z e h = sym e ∙ h

both_lowest : (n : ℕ) (s : PartitionSet) → in_both s (lowest n s) ≡ size (lowest n s)
both_lowest n s =
    rw (size_is (lowest n s), partitions_lowest n s)
    (how_many-same (partitions_of s) (λ q. is_in s q && is_in (lowest n s) q) (is_in (lowest n s)) (λ q lt. and_within (is_in s q) (is_in (lowest n s) q) (in_own (is_in s q) (nat_lt (rank s q) n) (is_in (lowest n s) q) (in_lowest n s q))))

and_or : (x y z : Bool) → one (x && y) ≤ one (x && (y || z))
and_or true true z = omega arith
and_or true false z = omega arith
and_or false y z = omega arith

both_union : (s t u : PartitionSet) → partitions_of t ≡ partitions_of u → in_both s t ≤ in_both s (union t u)
both_union s t u len =
    how_many-most (partitions_of s) (λ q. is_in s q && is_in t q) (λ q. is_in s q && is_in (union t u) q) (λ q. rw (in_union t u q len) (and_or (is_in s q) (is_in t q) (is_in u q)))

reach_filled : (p : ℕ) (free : PartitionSet) (gs qs : List ℕ) (owned : List PartitionSet) → partitions_of free ≡ p → AreBelow p owned → length gs ≡ length owned → length qs ≡ length owned → reach qs owned ≤ retained owned (filled free gs (retaining qs owned))
reach_filled p free [] [] [] long over lg lq = omega arith
reach_filled p free (g ∷ gs) [] [] long over lg lq = absurd (omega arith)
reach_filled p free gs (q ∷ qs) [] long over lg lq = absurd (omega arith)
reach_filled p free gs [] (own ∷ owned) long over lg lq = absurd (omega arith)
reach_filled p free [] (q ∷ qs) (own ∷ owned) long over lg lq = absurd (omega arith)
reach_filled p free (g ∷ gs) (q ∷ qs) (own ∷ owned) long over lg lq =
    let low : PartitionSet = lowest g free in
    omega (arith, reach_filled p (minus free low) gs qs owned (partitions_minus free low ∙ long) over.1 (omega arith) (omega arith), both_union own (lowest q own) low (partitions_lowest q own ∙ over.0 ∙ sym long ∙ sym (partitions_lowest g free)), both_lowest q own, size_lowest q own)

some_retain_most : (p : ℕ) (owned rows : List PartitionSet) → 0 < length owned → length rows ≡ length owned → AreBelow p owned → AreBelow p rows → IsBalanced p rows → retained owned rows ≤ retained owned (filling p owned)
some_retain_most p owned rows some len mine over balanced =
    let n : ℕ = length owned in
    let share : ℕ = p / n in
    let more : ℕ = p % n in
    let heavy : ℕ = heavies share owned in
    let h : ℕ = min more heavy in
    let qs : List ℕ = quotas p owned in
    let ss : List ℕ = sizes_of rows in
    let ls : length ss ≡ length owned = length_sizes rows ∙ len in
    let within : Within share ss = rw len at (balanced_within p rows (omega arith) over balanced) in
    let t : total ss ≡ length ss * share + overs share ss = total_overs share ss within in
    let same : length ss * share ≡ n * share = ap (λ k. k * share) ls in
    let all : n * share + more ≡ p = omega arith in
    let over_all : overs share ss ≡ more = omega (arith, total_sizes rows, sizes_sum p rows over balanced) in
    let lq : length qs ≡ n = length_shares share h (more - h) owned in
    let lg : length (gaps qs (retaining qs owned)) ≡ n = length_gaps qs (retaining qs owned) (retaining_fits qs owned lq) ∙ length_retaining qs owned lq in
    let a : retained owned rows ≤ reach ss owned = retained_reach p owned rows mine over len in
    let b : reach ss owned ≤ base share owned + overs share ss = reach_overs share ss owned within ls in
    let c : reach ss owned ≤ base share owned + heavy = reach_heavies share ss owned within ls in
    let d : base share owned + min h heavy ≤ reach qs owned = reach_shares share h (more - h) owned in
    let e : reach qs owned ≤ retained owned (filling p owned) = reach_filled p (free_of p (retaining qs owned)) (gaps qs (retaining qs owned)) qs owned (partitions_free p (retaining qs owned)) mine lg lq in
    omega arith

pub filling_retains_most : (p : ℕ) (owned rows : List PartitionSet) → length rows ≡ length owned → AreBelow p owned → AreBelow p rows → IsBalanced p rows → retained owned rows ≤ retained owned (filling p owned)
filling_retains_most p [] rows len mine over balanced = omega arith
filling_retains_most p (own ∷ owned) rows len mine over balanced = some_retain_most p (own ∷ owned) rows (omega arith) len mine over balanced
