-- Runs of equal numbers in a sorted list.
use Rattle.std.proofs.Common.{◌≡◌, ◌≢◌, ◌∙◌, ◌+◌, ◌<◌, ◌≤◌, ℕ, zero, suc, true, false, List, cond, length, take, get_or-take, get_or, sym, ap, refl, arith, inl, inr}
use Rattle.std.specs.Prelude.{◌==◌}
use Rattle.std.proofs.lemmas.Bool.{cases_lt}
use Rattle.std.proofs.lemmas.Bool.Decides.{eqb_tells}
use Rattle.std.proofs.lemmas.List.{length-take}
use Rattle.std.proofs.lemmas.List.Sorted.{sum_by-IsPermutation}
use Rattle.std.specs.List.Sorted.{IsPermutation}
use Rattle.keyed_table.specs.Counts.{plain}
use Rattle.keyed_table.proofs.Elements.{none-past, plain-next}

pub run-same : (ids : List ℕ) (start n v : ℕ) → start + n ≤ length ids → ((j : ℕ) → start ≤ j → j < start + n → get_or ids j 0 ≡ v) → plain (take (start + n) ids) v ≡ plain (take start ids) v + n
run-same ids start zero v le all = let e : start + 0 ≡ start = omega arith in rw e (omega arith)
run-same ids start (suc n) v le all =
    let e : start + suc n ≡ (start + n) + 1 = omega arith in
    let last : get_or ids (start + n) 0 ≡ v = all (start + n) (omega arith) (omega arith) in
    let before = run-same ids start n v (omega (arith, le)) (λ j from to. all j from (omega (arith, to))) in
    let own : (v == get_or ids (start + n) 0) ≡ true = elim (eqb_tells v (get_or ids (start + n) 0)) [
      | inl t ↦ t.0
      | inr f ↦ absurd (f.1 (sym last))
    ] in
    let next = plain-next ids (start + n) v (omega (arith, le)) in
    rw e (next ∙ rw own (omega (arith, before)))

pub run-other : (ids : List ℕ) (start n v x : ℕ) → start + n ≤ length ids → x ≢ v → ((j : ℕ) → start ≤ j → j < start + n → get_or ids j 0 ≡ v) → plain (take (start + n) ids) x ≡ plain (take start ids) x
run-other ids start zero v x le ne all = let e : start + 0 ≡ start = omega arith in rw e refl
run-other ids start (suc n) v x le ne all =
    let e : start + suc n ≡ (start + n) + 1 = omega arith in
    let last : get_or ids (start + n) 0 ≡ v = all (start + n) (omega arith) (omega arith) in
    let before = run-other ids start n v x (omega (arith, le)) ne (λ j from to. all j from (omega (arith, to))) in
    let other : (x == get_or ids (start + n) 0) ≡ false = elim (eqb_tells x (get_or ids (start + n) 0)) [
      | inl t ↦ absurd (ne (t.1 ∙ last))
      | inr f ↦ f.0
    ] in
    let next = plain-next ids (start + n) x (omega (arith, le)) in
    rw e (next ∙ rw other (omega (arith, before)))

pub all_equal : (ids : List ℕ) (start at j : ℕ) → ((j : ℕ) → start ≤ j → j < at → get_or ids j 0 ≡ get_or ids at 0) → start ≤ j → j < at + 1 → get_or ids j 0 ≡ get_or ids at 0
all_equal ids start at j run from to =
    elim (cases_lt j at) [
      | inl lt ↦ run j from lt
      | inr le ↦ let e : j ≡ at = omega (arith, to, le) in ap (λ i. get_or ids i 0) e
    ]

pub none-before : (ids : List ℕ) (start v : ℕ) → start ≤ length ids → ((j : ℕ) → j < start → get_or ids j 0 < v) → plain (take start ids) v ≡ 0
none-before ids start v le below =
    none-past (take start ids) v v
    (λ i lt.
    let before : i < start = omega (arith, lt, length-take start ids) in
    rw (get_or-take start ids i 0 before) (below i before))
    (omega arith)

-- the order of a list doesn't matter to its counts
pub plain-order : (ids sorted : List ℕ) (x : ℕ) → IsPermutation ids sorted → plain sorted x ≡ plain ids x
plain-order ids sorted x h = sum_by-IsPermutation (λ y. cond (x == y) 1 0) ids sorted h
