-- The sizes of balanced rows.
use Rattle.std.proofs.Common.{ℕ, zero, suc, ◌≡◌, ◌+◌, ◌-◌, ◌*◌, ◌/◌, ◌%◌, ◌<◌, ◌≤◌, List, [], ◌∷◌, length, suc-mul, refl, ap, ◌∙◌, arith, inl, inr}
use Rattle.std.proofs.Math.Nat.{mul-le-mul_left}
use Rattle.std.proofs.lemmas.Bool.{cases_lt}
use Rattle.bit_planes.specs.PartitionSet.{PartitionSet, partitions_of, is_in, one, size, full_set}
use Rattle.bit_planes.proofs.Sets.{one_le, size_is, how_many-none, partitions_full}
use Rattle.sticky_assignor.specs.Balanced.{size_at, IsBalanced, AreDisjoint, AreBelow}
use Rattle.sticky_assignor.specs.Private.Filling.{free_of}
use Rattle.sticky_assignor.proofs.Rows.{one_past, none_past, is_false}
use Rattle.sticky_assignor.proofs.Balance.{total, sizes, Within, InAll, in_all, free_holders, size_free}

pub balanced_disjoint : (p : ℕ) (rows : List PartitionSet) → AreBelow p rows → IsBalanced p rows → AreDisjoint rows
balanced_disjoint p rows over balanced q =
    elim (cases_lt q p) [
      | inl lt ↦ let h = balanced.once q lt in omega arith
      | inr ge ↦ omega (arith, none_past p rows q over ge)
    ]

abbrev pub sizes_of : List PartitionSet → List ℕ
sizes_of [] = []
sizes_of (row ∷ rows) = size row ∷ sizes_of rows

pub length_sizes : (rows : List PartitionSet) → length (sizes_of rows) ≡ length rows
length_sizes [] = refl
length_sizes (row ∷ rows) = ap (λ n. suc n) (length_sizes rows)

pub total_sizes : (rows : List PartitionSet) → total (sizes_of rows) ≡ sizes rows
total_sizes [] = refl
total_sizes (row ∷ rows) = omega (arith, total_sizes rows)

pub empty_size : (s : PartitionSet) → ((q : ℕ) → one (is_in s q) ≡ 0) → size s ≡ 0
empty_size s empty = size_is s ∙ how_many-none (partitions_of s) (is_in s) (λ q lt. is_false (is_in s q) (empty q))

pub nothing_free : (p : ℕ) (rows : List PartitionSet) → AreBelow p rows → IsBalanced p rows → size (free_of p rows) ≡ 0
nothing_free p rows over balanced =
    let inside : InAll p rows = in_all p rows over (balanced_disjoint p rows over balanced) in
    empty_size (free_of p rows) (λ q. elim (cases_lt q p) [
      | inl lt ↦ let h = balanced.once q lt in omega (arith, free_holders p rows inside q, one_le (is_in (full_set p) q))
      | inr ge ↦ let l = partitions_full p in omega (arith, free_holders p rows inside q, one_past (full_set p) q (omega arith))
    ])

pub sizes_sum : (p : ℕ) (rows : List PartitionSet) → AreBelow p rows → IsBalanced p rows → sizes rows ≡ p
sizes_sum p rows over balanced =
    omega (arith, nothing_free p rows over balanced, size_free p rows over (in_all p rows over (balanced_disjoint p rows over balanced)))

most : (m : ℕ) (rows : List PartitionSet) → ((i : ℕ) → i < length rows → size_at rows i ≤ m) → sizes rows ≤ length rows * m
most m [] h = omega arith
most m (row ∷ rows) h =
    let a : size row ≤ m = h 0 (omega arith) in
    omega (arith, suc-mul (length rows) m, most m rows (λ i lt. h (suc i) (omega arith)))

most_but : (m : ℕ) (rows : List PartitionSet) (j : ℕ) → j < length rows → ((i : ℕ) → i < length rows → size_at rows i ≤ m) → sizes rows + m ≤ length rows * m + size_at rows j
most_but m [] j lt h = absurd (omega arith)
most_but m (row ∷ rows) zero lt h = omega (arith, suc-mul (length rows) m, most m rows (λ i lt. h (suc i) (omega arith)))
most_but m (row ∷ rows) (suc j) lt h =
    let a : size row ≤ m = h 0 (omega arith) in
    omega (arith, suc-mul (length rows) m, most_but m rows j (omega arith) (λ i lt. h (suc i) (omega arith)))

least : (m : ℕ) (rows : List PartitionSet) → ((i : ℕ) → i < length rows → m ≤ size_at rows i) → length rows * m ≤ sizes rows
least m [] h = omega arith
least m (row ∷ rows) h =
    let a : m ≤ size row = h 0 (omega arith) in
    omega (arith, suc-mul (length rows) m, least m rows (λ i lt. h (suc i) (omega arith)))

least_but : (m : ℕ) (rows : List PartitionSet) (j : ℕ) → j < length rows → ((i : ℕ) → i < length rows → m ≤ size_at rows i) → length rows * m + size_at rows j ≤ sizes rows + m
least_but m [] j lt h = absurd (omega arith)
least_but m (row ∷ rows) zero lt h = omega (arith, suc-mul (length rows) m, least m rows (λ i lt. h (suc i) (omega arith)))
least_but m (row ∷ rows) (suc j) lt h =
    let a : m ≤ size row = h 0 (omega arith) in
    omega (arith, suc-mul (length rows) m, least_but m rows j (omega arith) (λ i lt. h (suc i) (omega arith)))

-- with s the size of one row: the arithmetic of a share
at_least : (p n s : ℕ) → 0 < n → p + (s + 1) ≤ n * (s + 1) + s → p / n ≤ s
at_least p n s some le =
    elim (cases_lt s (p / n)) [
      | inl lt ↦
          let next : s + 1 ≤ p / n = omega arith in
          let all : n * (p / n) + p % n ≡ p = omega arith in
          absurd (omega (arith, mul-le-mul_left n next))
      | inr ge ↦ ge
    ]

at_most : (p n s : ℕ) → 0 < n → n * (s - 1) + s ≤ p + (s - 1) → s ≤ p / n + 1
at_most p n s some le =
    elim (cases_lt (p / n + 1) s) [
      | inl lt ↦
          let next : p / n + 1 ≤ s - 1 = omega arith in
          let all : n * (p / n) + p % n ≡ p = omega arith in
          let few : p % n < n = omega arith in
          let step : n * (p / n + 1) ≡ n * (p / n) + n = omega arith in
          absurd (omega (arith, mul-le-mul_left n next))
      | inr ge ↦ ge
    ]

within_each : (share : ℕ) (rows : List PartitionSet) → ((i : ℕ) → i < length rows → share ≤ size_at rows i) → ((i : ℕ) → i < length rows → size_at rows i ≤ share + 1) → Within share (sizes_of rows)
within_each share [] low high = tt
within_each share (row ∷ rows) low high =
    (low 0 (omega arith), high 0 (omega arith), within_each share rows (λ i lt. low (suc i) (omega arith)) (λ i lt. high (suc i) (omega arith)))

pub balanced_within : (p : ℕ) (rows : List PartitionSet) → 0 < length rows → AreBelow p rows → IsBalanced p rows → Within (p / length rows) (sizes_of rows)
balanced_within p rows some over balanced =
    let sum : sizes rows ≡ p = sizes_sum p rows over balanced in
    within_each (p / length rows) rows
    (λ i lt. at_least p (length rows) (size_at rows i) some (omega (arith, most_but (size_at rows i + 1) rows i lt (λ j l. balanced.even j i l lt))))
    (λ i lt. at_most p (length rows) (size_at rows i) some (omega (arith, least_but (size_at rows i - 1) rows i lt (λ j l. let e = balanced.even i j lt l in omega arith))))
