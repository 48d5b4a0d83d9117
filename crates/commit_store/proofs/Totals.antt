-- Counters that add up to offsets.
use Rattle.std.proofs.Common.{◌≡◌, ◌∙◌, ◌+◌, ◌-◌, ◌<◌, ◌≤◌, ◌*◌, ◌^◌, ℕ, zero, suc, false, List, [], ◌∷◌, ◌++◌, length, cond, get_or, set, ap, refl, arith, inl, inr, suc-mul}
use Rattle.std.specs.Prelude.{◌==◌, sum}
use Rattle.std.proofs.lemmas.Bool.Decides.{eqb_tells}
use Rattle.std.proofs.lemmas.List.Sums.{sum_by-cons}
use Rattle.std.proofs.Common.{get_or-set_same, get_or-set_other}
use Rattle.std.proofs.lemmas.Bool.{cases_eq}
use Rattle.std.proofs.lemmas.List.Sums.{count_by-le-length}
use Rattle.std.proofs.lemmas.Nat.{mul-le}
use Rattle.std.proofs.Math.ListN.{length-set}
use Rattle.commit_store.specs.Commits.{IsValidStore, Commits, committed_at, with_commit}
use Rattle.keyed_table.specs.Counts.{HaveCounters, SumsFit, plain, raised, raised_from}

sum-cons : (x : ℕ) (xs : List ℕ) → sum (x ∷ xs) ≡ x + sum xs
sum-cons x xs = sum_by-cons (λ n. n) x xs

pub one-of-sum : (xs : List ℕ) (i : ℕ) → get_or xs i 0 ≤ sum xs
one-of-sum [] i = omega arith
one-of-sum (x ∷ xs) zero = omega (arith, sum-cons x xs)
one-of-sum (x ∷ xs) (suc i) = omega (arith, sum-cons x xs, one-of-sum xs i)

pub sum-set : (xs : List ℕ) (i v : ℕ) → i < length xs → sum (set xs i v) + get_or xs i 0 ≡ sum xs + v
sum-set [] i v lt = absurd (omega (arith, lt))
sum-set (x ∷ xs) zero v lt = omega (arith, sum-cons x xs, sum-cons v xs)
sum-set (x ∷ xs) (suc i) v lt = omega (arith, sum-cons x xs, sum-cons x (set xs i v), sum-set xs i v (omega (arith, lt)))

-- numbers below a bound add up to at most their number times the bound
pub sum-most : (xs : List ℕ) (most : ℕ) → ((i : ℕ) → get_or xs i 0 ≤ most) → sum xs ≤ length xs * most
sum-most [] most h = omega arith
sum-most (x ∷ xs) most h =
    let step : suc (length xs) * most ≡ length xs * most + most = suc-mul (length xs) most in
    omega (arith, step, sum-cons x xs, h 0, sum-most xs most (λ i. h (suc i)))

plain-cons : (id : ℕ) (ids : List ℕ) (x : ℕ) → plain (id ∷ ids) x ≡ cond (x == id) 1 0 + plain ids x
plain-cons id ids x = sum_by-cons (λ y. cond (x == y) 1 0) id ids

raised-past : (start : ℕ) (counts : List ℕ) (id : ℕ) (ids : List ℕ) → id < start → sum (raised_from start counts (id ∷ ids)) ≡ sum (raised_from start counts ids)
raised-past start [] id ids lt = refl
raised-past start (n ∷ counts) id ids lt =
    let other : (start == id) ≡ false = elim (eqb_tells start id) [
      | inl t ↦ absurd (omega (arith, t.1, lt))
      | inr f ↦ f.0
    ] in
    let here : plain (id ∷ ids) start ≡ plain ids start = plain-cons id ids start ∙ rw other (omega arith) in
    omega (arith, here, sum-cons (n + plain (id ∷ ids) start) (raised_from (start + 1) counts (id ∷ ids)), sum-cons (n + plain ids start) (raised_from (start + 1) counts ids), raised-past (start + 1) counts id ids (omega (arith, lt)))

raised-here : (start : ℕ) (counts : List ℕ) (id : ℕ) (ids : List ℕ) → start ≤ id → id < start + length counts → sum (raised_from start counts (id ∷ ids)) ≡ sum (raised_from start counts ids) + 1
raised-here start [] id ids le lt = absurd (omega (arith, le, lt))
raised-here start (n ∷ counts) id ids le lt =
    elim (eqb_tells start id) [
      | inl t ↦
          let here : plain (id ∷ ids) start ≡ 1 + plain ids start = plain-cons id ids start ∙ ap (λ b. cond b 1 0 + plain ids start) t.0 in
          omega (arith, here, sum-cons (n + plain (id ∷ ids) start) (raised_from (start + 1) counts (id ∷ ids)), sum-cons (n + plain ids start) (raised_from (start + 1) counts ids), raised-past (start + 1) counts id ids (omega (arith, t.1)))
      | inr f ↦
          let here : plain (id ∷ ids) start ≡ 0 + plain ids start = plain-cons id ids start ∙ ap (λ b. cond b 1 0 + plain ids start) f.0 in
          let later : start + 1 ≤ id = omega (arith, le, f.1) in
          omega (arith, here, sum-cons (n + plain (id ∷ ids) start) (raised_from (start + 1) counts (id ∷ ids)), sum-cons (n + plain ids start) (raised_from (start + 1) counts ids), raised-here (start + 1) counts id ids later (omega (arith, lt)))
    ]

raised-none : (start : ℕ) (counts : List ℕ) → sum (raised_from start counts []) ≡ sum counts
raised-none start [] = refl
raised-none start (n ∷ counts) = omega (arith, sum-cons (n + 0) (raised_from (start + 1) counts []), sum-cons n counts, raised-none (start + 1) counts)

own-count : (id : ℕ) (ids : List ℕ) → 0 < plain (id ∷ ids) id
own-count id ids =
    elim (eqb_tells id id) [
      | inl t ↦ omega (arith, plain-cons id ids id, ap (λ b. cond b 1 0 + plain ids id) t.0)
      | inr f ↦ absurd (f.1 refl)
    ]

more-count : (id : ℕ) (ids : List ℕ) (x : ℕ) → plain ids x ≤ plain (id ∷ ids) x
more-count id ids x = omega (arith, plain-cons id ids x)

-- counters that are raised by a list add up to as much more as the list is long
pub sum_raised : (counts ids : List ℕ) → HaveCounters counts ids → sum (raised counts ids) ≡ sum counts + length ids
unfolding raised
sum_raised counts [] have = omega (arith, raised-none 0 counts)
sum_raised counts (id ∷ ids) have =
    let within : id < length counts = have id (own-count id ids) in
    omega (arith, raised-here 0 counts id ids (omega arith) (omega (arith, within)), sum_raised counts ids (λ x more. have x (omega (arith, more, more-count id ids x))))

-- sums of counters that add up to offsets fit in 64 bits
pub sums-fit : (s : Commits) (ids : List ℕ) → IsValidStore s → length ids < 2 ^ 32 → SumsFit s.counts ids
sums-fit s ids a few x =
    let offsets = sum-most s.offsets (2 ^ 32 - 1) (λ p. omega (arith, a.small p)) in
    let most : length s.offsets * (2 ^ 32 - 1) ≤ 4096 * (2 ^ 32 - 1) = mul-le (length s.offsets) (2 ^ 32 - 1) 4096 (2 ^ 32 - 1) a.few (omega arith) in
    omega (arith, one-of-sum s.counts x, a.adds_up, offsets, most, few, count_by-le-length (λ y. x == y) ids)

pub stays-commits : (s : Commits) (p : ℕ) (ids : List ℕ) → IsValidStore s → p < length s.offsets → HaveCounters s.counts ids → committed_at s p + length ids < 2 ^ 32 → IsValidStore (with_commit s p ids)
stays-commits s p ids a lt have fit =
    let end = committed_at s p + length ids in
    record {
      some = rw (length-set s.offsets p end) a.some;
      few = rw (length-set s.offsets p end) a.few;
      small = λ q. elim (cases_eq q p) [
        | inl is ↦ let here : get_or (set s.offsets p end) q 0 ≡ end = ap (λ r. get_or (set s.offsets p end) r 0) is ∙ get_or-set_same s.offsets p end 0 lt in omega (arith, here, fit)
        | inr ne ↦ rw (get_or-set_other s.offsets p q end 0 ne) (a.small q)
      ];
      adds_up = omega (arith, sum_raised s.counts ids have, sum-set s.offsets p end lt, a.adds_up);
    }
