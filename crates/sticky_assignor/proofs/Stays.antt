-- Balanced rows stay.
use Rattle.std.proofs.Common.{ℕ, ◌≡◌, ◌<◌, Bool, true, false, ◌||◌, List, [], ◌∷◌, length, refl, ap, sym, ◌∙◌, arith}
use Rattle.bit_planes.specs.PartitionSet.{PartitionSet, partitions_of, is_in, size, union, minus, lowest}
use Rattle.bit_planes.proofs.Sets.{same_set, in_union, partitions_union, partitions_lowest, partitions_minus, none_of_no_size, size_lowest}
use Rattle.sticky_assignor.specs.Balanced.{AreBelow, IsBalanced}
use Rattle.sticky_assignor.specs.Private.Filling.{quotas, free_of, gaps, filled, filling}
use Rattle.sticky_assignor.proofs.Rows.{size_beyond}
use Rattle.sticky_assignor.proofs.Balance.{Fits, length_gaps, partitions_free}
use Rattle.sticky_assignor.proofs.Retains.{retaining_all, fits_quotas}
use Rattle.sticky_assignor.proofs.Even.{sizes_of, length_sizes, total_sizes, sizes_sum, balanced_within, nothing_free}

or_false : (x y : Bool) → y ≡ false → (x || y) ≡ x
or_false true y e = refl
or_false false y e = e

union_empty : (s t : PartitionSet) → partitions_of s ≡ partitions_of t → size t ≡ 0 → union s t ≡ s
union_empty s t len e =
    same_set (union s t) s (partitions_union s t) (λ q lt. in_union s t q len ∙ or_false (is_in s q) (is_in t q) (none_of_no_size t q e))

filled_nothing : (p : ℕ) (free : PartitionSet) (gs : List ℕ) (ks : List PartitionSet) → partitions_of free ≡ p → AreBelow p ks → size free ≡ 0 → length gs ≡ length ks → filled free gs ks ≡ ks
filled_nothing p free [] [] long over e len = refl
filled_nothing p free [] (k ∷ ks) long over e len = absurd (omega arith)
filled_nothing p free (g ∷ gs) [] long over e len = absurd (omega arith)
filled_nothing p free (g ∷ gs) (k ∷ ks) long over e len =
    let low : PartitionSet = lowest g free in
    let same : union k low ≡ k = union_empty k low (over.0 ∙ sym long ∙ sym (partitions_lowest g free)) (omega (arith, size_lowest g free)) in
    let rest : filled (minus free low) gs ks ≡ ks = filled_nothing p (minus free low) gs ks (partitions_minus free low ∙ long) over.1 (omega (arith, size_beyond g free)) (omega arith) in
    rw (same, rest) refl

fits_sizes : (rows : List PartitionSet) → Fits (sizes_of rows) rows
fits_sizes [] = tt
fits_sizes (row ∷ rows) = (omega arith, fits_sizes rows)

pub filling_stays : (p : ℕ) (rows : List PartitionSet) → AreBelow p rows → IsBalanced p rows → filling p rows ≡ rows
filling_stays p [] over balanced = refl
filling_stays p (row ∷ rest) over balanced =
    let rows : List PartitionSet = row ∷ rest in
    let some : 0 < length rows = omega arith in
    let fits : Fits (quotas p rows) rows = fits_quotas p (sizes_of rows) rows some (length_sizes rows) (balanced_within p rows some over balanced) (total_sizes rows ∙ sizes_sum p rows over balanced) (fits_sizes rows) in
    ap (λ ks. filled (free_of p ks) (gaps (quotas p rows) ks) ks) (retaining_all (quotas p rows) rows fits)
    ∙ filled_nothing p (free_of p rows) (gaps (quotas p rows) rows) rows (partitions_free p rows) over (nothing_free p rows over balanced) (length_gaps (quotas p rows) rows fits)
