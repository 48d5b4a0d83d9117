-- Rows within balanced rows are kept whole by their target.
use Rattle.std.proofs.Common.{ℕ, zero, suc, ◌≡◌, ◌/◌, ◌<◌, ◌≤◌, Bool, true, false, ◌||◌, List, [], ◌∷◌, length, refl, ap, sym, ◌∙◌, subst, arith}
use Rattle.bit_planes.specs.PartitionSet.{PartitionSet, partitions_of, is_in, one, size, minus, lowest}
use Rattle.bit_planes.proofs.Sets.{in_union, partitions_union, partitions_lowest, partitions_minus, size_is}
use Rattle.sticky_assignor.specs.Balanced.{holders, AreBelow, AreDisjoint, IsBalanced}
use Rattle.sticky_assignor.specs.Private.Filling.{quotas, retaining, free_of, gaps, filled}
use Rattle.sticky_assignor.specs.Target.{rows_by, target}
use Rattle.sticky_assignor.proofs.Rows.{how_many-most}
use Rattle.sticky_assignor.proofs.Balance.{Within, Fits, partitions_free, length_gaps, retaining_over}
use Rattle.sticky_assignor.proofs.Retains.{retaining_all, fits_quotas}
use Rattle.sticky_assignor.proofs.Even.{sizes_of, length_sizes, total_sizes, sizes_sum, balanced_within}
use Rattle.sticky_assignor.proofs.Ranks.{filling_is_target}

-- each row lies in its counterpart
abbrev pub Lies : List PartitionSet → List PartitionSet → Type 0
Lies [] [] = Unit {0}
Lies [] (b ∷ bs) = ⊥
Lies (a ∷ rest) [] = ⊥
Lies (a ∷ rest) (b ∷ bs) = ((q : ℕ) → one (is_in a q) ≤ one (is_in b q)) × Lies rest bs

pub lies_length : (rows bs : List PartitionSet) → Lies rows bs → length rows ≡ length bs
lies_length [] [] lies = refl
lies_length [] (b ∷ bs) lies = absurd lies
lies_length (a ∷ rest) [] lies = absurd lies
lies_length (a ∷ rest) (b ∷ bs) lies = ap (λ n. suc n) (lies_length rest bs lies.1)

pub lies_holders : (rows bs : List PartitionSet) (q : ℕ) → Lies rows bs → holders rows q ≤ holders bs q
lies_holders [] [] q lies = omega arith
lies_holders [] (b ∷ bs) q lies = absurd lies
lies_holders (a ∷ rest) [] q lies = absurd lies
lies_holders (a ∷ rest) (b ∷ bs) q lies = let h = lies.0 q in omega (arith, lies_holders rest bs q lies.1)

pub lies_disjoint : (rows bs : List PartitionSet) → Lies rows bs → AreDisjoint bs → AreDisjoint rows
lies_disjoint rows bs lies disjoint q = let a = disjoint q in omega (arith, lies_holders rows bs q lies)

le_or : (x y : Bool) → one x ≤ one (x || y)
le_or true y = omega arith
le_or false true = omega arith
le_or false false = omega arith

lies_filled : (p : ℕ) (free : PartitionSet) (gs : List ℕ) (ks : List PartitionSet) → length gs ≡ length ks → partitions_of free ≡ p → AreBelow p ks → Lies ks (filled free gs ks)
lies_filled p free [] [] len long over = tt
lies_filled p free [] (k ∷ ks) len long over = absurd (omega arith)
lies_filled p free (g ∷ gs) [] len long over = absurd (omega arith)
lies_filled p free (g ∷ gs) (k ∷ ks) len long over = (
  λ q. rw (in_union k (lowest g free) q (over.0 ∙ sym long ∙ sym (partitions_lowest g free))) (le_or (is_in k q) (is_in (lowest g free) q)),
  lies_filled p (minus free (lowest g free)) gs ks (omega arith) (partitions_minus free (lowest g free) ∙ long) over.1,
)

size_le : (s t : PartitionSet) → partitions_of s ≡ partitions_of t → ((q : ℕ) → one (is_in s q) ≤ one (is_in t q)) → size s ≤ size t
size_le s t len le = rw (size_is s, size_is t, len) (how_many-most (partitions_of t) (is_in s) (is_in t) le)

fits_lies : (p : ℕ) (rows bs : List PartitionSet) → AreBelow p rows → AreBelow p bs → Lies rows bs → Fits (sizes_of bs) rows
fits_lies p [] [] over ob lies = tt
fits_lies p [] (b ∷ bs) over ob lies = absurd lies
fits_lies p (r ∷ rows) [] over ob lies = absurd lies
fits_lies p (r ∷ rows) (b ∷ bs) over ob lies = (size_le r b (over.0 ∙ sym ob.0) lies.0, fits_lies p rows bs over.1 ob.1 lies.1)

pub retained_whole : (p : ℕ) (rows bs : List PartitionSet) → 0 < length rows → AreBelow p rows → AreBelow p bs → IsBalanced p bs → Lies rows bs → Lies rows (target p rows)
retained_whole p rows bs some over ob balanced lies =
    let len : length bs ≡ length rows = sym (lies_length rows bs lies) in
    let ls : length (sizes_of bs) ≡ length rows = length_sizes bs ∙ len in
    let within : Within (p / length rows) (sizes_of bs) = rw len at (balanced_within p bs (omega arith) ob balanced) in
    let fits : Fits (quotas p rows) rows = fits_quotas p (sizes_of bs) rows some ls within (total_sizes bs ∙ sizes_sum p bs ob balanced) (fits_lies p rows bs over ob lies) in
    let whole : retaining (quotas p rows) rows ≡ rows = retaining_all (quotas p rows) rows fits in
    let is : filled (free_of p rows) (gaps (quotas p rows) rows) rows ≡ target p rows = sym (ap (λ ks. filled (free_of p ks) (gaps (quotas p rows) ks) ks) whole) ∙ filling_is_target p rows in
    subst (Lies rows) is (lies_filled p (free_of p rows) (gaps (quotas p rows) rows) rows (length_gaps (quotas p rows) rows fits) (partitions_free p rows) over)

over_filled : (p : ℕ) (free : PartitionSet) (gs : List ℕ) (ks : List PartitionSet) → AreBelow p ks → AreBelow p (filled free gs ks)
over_filled p free [] ks over = tt
over_filled p free (g ∷ gs) [] over = tt
over_filled p free (g ∷ gs) (k ∷ ks) over = (partitions_union k (lowest g free) ∙ over.0, over_filled p (minus free (lowest g free)) gs ks over.1)

pub target_over : (p : ℕ) (rows : List PartitionSet) → AreBelow p rows → AreBelow p (target p rows)
target_over p rows over =
    let qs : List ℕ = quotas p rows in
    subst (AreBelow p) (filling_is_target p rows) (over_filled p (free_of p (retaining qs rows)) (gaps qs (retaining qs rows)) (retaining qs rows) (retaining_over p qs rows over))

length_rows_by : (n : ℕ) (f : ℕ → PartitionSet) → length (rows_by n f) ≡ n
length_rows_by zero f = refl
length_rows_by (suc n) f = ap (λ m. suc m) (length_rows_by n (λ i. f (suc i)))

pub length_target : (p : ℕ) (rows : List PartitionSet) → length (target p rows) ≡ length rows
unfolding target
length_target p rows = length_rows_by (length rows) _
