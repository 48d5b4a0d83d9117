-- The bits of one word.
use Rattle.std.proofs.Common.{ℕ, zero, suc, ◌≡◌, ◌≢◌, ◌+◌, ◌-◌, ◌*◌, ◌/◌, ◌%◌, ◌^◌, ◌<◌, ◌≤◌, ◌==◌, Bool, true, false, ◌||◌, ◌&&◌, not, min, max, refl, ap, sym, subst, ◌∙◌, arith, inl, inr, bit_and, bit_or}
use Rattle.std.specs.Prelude.{nat_lt, count_ones}
use Rattle.std.specs.Int.{bit_at, trailing_zeros, w64}
use Rattle.std.proofs.lemmas.Bool.{cases_lt, cases_eq}
use Rattle.std.proofs.lemmas.Bool.Decides.{nat_tests}
use Rattle.std.proofs.lemmas.Nat.{ones-le}
use Rattle.std.proofs.lemmas.Nat.Bits.{bit_at-lt, bit_at-zero, bit_at-suc, bit_at_lowest, bit_at_and, bit_at_or, bit_at_not, bit_at_above, bit_at_ones, bit_at_ones_above, bit_at-trailing_zeros, same_from_bits_below}
use Rattle.std.proofs.Math.Nat.{mod-eq_of_lt}
use Rattle.std.proofs.Math.Pow.{pow-lt}
use lib.Count.{ones_step}
use Rattle.lane_words.specs.Words.{and_not}
use Rattle.bit_planes.specs.Private.Bits.{is_bit, HasLowestBits, HasBitsBelow}
use Rattle.bit_planes.specs.PartitionSet.{one, how_many}
use Rattle.bit_planes.proofs.Sets.{how_many-same, how_many-rises, all_low}

-- ---- from digits to truth values
digit_max : (m n : ℕ) → m < 2 → n < 2 → (max m n == 1) ≡ ((m == 1) || (n == 1))
digit_max zero zero l h = refl
digit_max zero (suc zero) l h = refl
digit_max (suc zero) zero l h = refl
digit_max (suc zero) (suc zero) l h = refl
digit_max (suc (suc m)) n l h = absurd (omega arith)
digit_max m (suc (suc n)) l h = absurd (omega arith)

digit_min : (m n : ℕ) → m < 2 → n < 2 → (min m n == 1) ≡ ((m == 1) && (n == 1))
digit_min zero zero l h = refl
digit_min zero (suc zero) l h = refl
digit_min (suc zero) zero l h = refl
digit_min (suc zero) (suc zero) l h = refl
digit_min (suc (suc m)) n l h = absurd (omega arith)
digit_min m (suc (suc n)) l h = absurd (omega arith)

digit_not : (n : ℕ) → n < 2 → (1 - n == 1) ≡ not (n == 1)
digit_not zero l = refl
digit_not (suc zero) l = refl
digit_not (suc (suc n)) l = absurd (omega arith)

digit_one : (n : ℕ) → n < 2 → one (n == 1) ≡ n
digit_one zero l = refl
digit_one (suc zero) l = refl
digit_one (suc (suc n)) l = absurd (omega arith)

pub bit_is : (w k : ℕ) → is_bit w k ≡ (bit_at w k == 1)
unfolding is_bit
bit_is w k = refl

pub one_bit : (w k : ℕ) → one (is_bit w k) ≡ bit_at w k
one_bit w k = ap one (bit_is w k) ∙ digit_one (bit_at w k) (bit_at-lt w k)

pub bit_of_at : (w v k i : ℕ) → bit_at w k ≡ bit_at v i → is_bit w k ≡ is_bit v i
bit_of_at w v k i e = bit_is w k ∙ ap (λ n. n == 1) e ∙ sym (bit_is v i)

pub bit_or_is : (x y k : ℕ) → is_bit (bit_or x y) k ≡ (is_bit x k || is_bit y k)
bit_or_is x y k = bit_is (bit_or x y) k ∙ rw (bit_at_or x y k, bit_is x k, bit_is y k) (digit_max (bit_at x k) (bit_at y k) (bit_at-lt x k) (bit_at-lt y k))

pub bit_and_is : (x y k : ℕ) → is_bit (bit_and x y) k ≡ (is_bit x k && is_bit y k)
bit_and_is x y k = bit_is (bit_and x y) k ∙ rw (bit_at_and x y k, bit_is x k, bit_is y k) (digit_min (bit_at x k) (bit_at y k) (bit_at-lt x k) (bit_at-lt y k))

pub bit_not_is : (y k : ℕ) → y < 2 ^ 64 → k < 64 → is_bit (2 ^ 64 - 1 - y) k ≡ not (is_bit y k)
bit_not_is y k fits lt = bit_is (2 ^ 64 - 1 - y) k ∙ rw (bit_at_not w64 y k fits lt, bit_is y k) (digit_not (bit_at y k) (bit_at-lt y k))

pub and_not_is : (x y k : ℕ) → y < 2 ^ 64 → k < 64 → is_bit (and_not x y) k ≡ (is_bit x k && not (is_bit y k))
and_not_is x y k fits lt = bit_and_is x (2 ^ 64 - 1 - y) k ∙ ap (λ b. is_bit x k && b) (bit_not_is y k fits lt)

pub no_bit : (k : ℕ) → is_bit 0 k ≡ false
no_bit k = bit_is 0 k ∙ ap (λ n. n == 1) (bit_at-zero k)

pub no_bit_above : (w k : ℕ) → w < 2 ^ 64 → 64 ≤ k → is_bit w k ≡ false
no_bit_above w k fits le = bit_is w k ∙ ap (λ n. n == 1) (bit_at_above w 64 k fits le)

from_one : (x y : Bool) → one x ≡ one y → x ≡ y
from_one true true e = refl
from_one true false e = absurd (omega arith)
from_one false true e = absurd (omega arith)
from_one false false e = refl

pub same_word : (x y : ℕ) → x < 2 ^ 64 → y < 2 ^ 64 → ((k : ℕ) → k < 64 → is_bit x k ≡ is_bit y k) → x ≡ y
same_word x y fx fy same = same_from_bits_below 64 x y fx fy (λ k lt. sym (one_bit x k) ∙ (ap one (same k lt) ∙ one_bit y k))

-- the lowest bit of a word
pub record IsLowestBit (w t : ℕ) : Type 0 where
  pub within : t < 64
  pub set : is_bit w t ≡ true
  pub clear : (k : ℕ) → k < t → is_bit w k ≡ false

pub lowest_bit : (w : ℕ) → 0 < w → w < 2 ^ 64 → IsLowestBit w (trailing_zeros w64 w)
lowest_bit w some fits = let z = bit_at-trailing_zeros w64 w some fits in record {
  within = z.0;
  set = bit_is w (trailing_zeros w64 w) ∙ ap (λ n. n == 1) z.1;
  clear = λ k lt. bit_is w k ∙ ap (λ n. n == 1) (z.2 k lt);
}

pub low_ones : (n k : ℕ) → is_bit (2 ^ n - 1) k ≡ nat_lt k n
low_ones n k = bit_is (2 ^ n - 1) k ∙ elim (cases_lt k n) [
  | inl lt ↦ rw (bit_at_ones n k lt) (grind (arith, nat_tests))
  | inr le ↦ rw (bit_at_ones_above n k le) (grind (arith, nat_tests))
]

-- ---- a word's bits are counted
pub how_many-first : (n : ℕ) (f : ℕ → Bool) → how_many (suc n) f ≡ one (f 0) + how_many n (λ k. f (suc k))
how_many-first zero f = omega arith
how_many-first (suc n) f = omega (arith, how_many-first n f)

ones_below : (d w : ℕ) → w < 2 ^ d → count_ones w ≡ how_many d (is_bit w)
ones_below zero w lt = omega (arith, ones-le 0 w lt)
ones_below (suc d) w lt =
    let half : w / 2 < 2 ^ d = omega arith in
    let lowest : w % 2 ≡ one (is_bit w 0) = sym (one_bit w 0 ∙ bit_at_lowest w) in
    let others : how_many d (is_bit (w / 2)) ≡ how_many d (λ k. is_bit w (suc k)) = how_many-same d (is_bit (w / 2)) (λ k. is_bit w (suc k)) (λ k below. sym (bit_of_at w (w / 2) (suc k) k (bit_at-suc w k))) in
    ones_step w ∙ rw (lowest, ones_below d (w / 2) half, others) (sym (how_many-first d (is_bit w)))

pub ones_are : (w : ℕ) → w < 2 ^ 64 → count_ones w ≡ how_many 64 (is_bit w)
ones_are w lt = ones_below 64 w lt

-- ---- the lowest bit cleared
below_lowest : (t w : ℕ) → bit_at w t ≡ 1 → ((i : ℕ) → i < t → bit_at w i ≡ 0) → bit_at (w - 1) t ≡ 0
below_lowest zero w set clear = bit_at_lowest (w - 1) ∙ (let odd : w % 2 ≡ 1 = sym (bit_at_lowest w) ∙ set in omega arith)
below_lowest (suc t) w set clear =
    let even : w % 2 ≡ 0 = sym (bit_at_lowest w) ∙ clear 0 (omega arith) in
    let upper : bit_at (w / 2) t ≡ 1 = sym (bit_at-suc w t) ∙ set in
    let ih : bit_at (w / 2 - 1) t ≡ 0 = below_lowest t (w / 2) upper (λ i lt. sym (bit_at-suc w i) ∙ clear (suc i) (omega arith)) in
    bit_at-suc (w - 1) t ∙ (let half : (w - 1) / 2 ≡ w / 2 - 1 = omega arith in rw half ih)

other_than_lowest : (t w k : ℕ) → bit_at w t ≡ 1 → ((i : ℕ) → i < t → bit_at w i ≡ 0) → k ≢ t → min (bit_at w k) (bit_at (w - 1) k) ≡ bit_at w k
other_than_lowest zero w zero set clear other = absurd (other refl)
other_than_lowest zero w (suc k) set clear other =
    let odd : w % 2 ≡ 1 = sym (bit_at_lowest w) ∙ set in
    let half : (w - 1) / 2 ≡ w / 2 = omega arith in
    let same : bit_at (w - 1) (suc k) ≡ bit_at w (suc k) = bit_at-suc (w - 1) k ∙ (ap (λ n. bit_at n k) half ∙ sym (bit_at-suc w k)) in
    rw same (omega arith)
other_than_lowest (suc t) w zero set clear other = let none = clear 0 (omega arith) in rw none (omega arith)
other_than_lowest (suc t) w (suc k) set clear other =
    let even : w % 2 ≡ 0 = sym (bit_at_lowest w) ∙ clear 0 (omega arith) in
    let upper : bit_at (w / 2) t ≡ 1 = sym (bit_at-suc w t) ∙ set in
    let half : (w - 1) / 2 ≡ w / 2 - 1 = omega arith in
    let ih : min (bit_at (w / 2) k) (bit_at (w / 2 - 1) k) ≡ bit_at (w / 2) k = other_than_lowest t (w / 2) k upper (λ i lt. sym (bit_at-suc w i) ∙ clear (suc i) (omega arith)) (λ e. other (ap (λ n. suc n) e)) in
    rw (bit_at-suc w k, bit_at-suc (w - 1) k, half) ih

set_digit : (w k : ℕ) → is_bit w k ≡ true → bit_at w k ≡ 1
set_digit w k e = sym (one_bit w k) ∙ ap one e

clear_digit : (w k : ℕ) → is_bit w k ≡ false → bit_at w k ≡ 0
clear_digit w k e = sym (one_bit w k) ∙ ap one e

pub lowest_cleared : (w t : ℕ) → IsLowestBit w t → is_bit (bit_and w (w - 1)) t ≡ false
lowest_cleared w t low =
    let gone = below_lowest t w (set_digit w t low.set) (λ i lt. clear_digit w i (low.clear i lt)) in
    from_one (is_bit (bit_and w (w - 1)) t) false (one_bit (bit_and w (w - 1)) t ∙ (bit_at_and w (w - 1) t ∙ rw gone (omega arith)))

pub others_stay : (w t k : ℕ) → IsLowestBit w t → k ≢ t → is_bit (bit_and w (w - 1)) k ≡ is_bit w k
others_stay w t k low other =
    bit_of_at (bit_and w (w - 1)) w k k (bit_at_and w (w - 1) k ∙ other_than_lowest t w k (set_digit w t low.set) (λ i lt. clear_digit w i (low.clear i lt)) other)

-- ---- the lowest bits cleared one after another
abbrev pub LacksLowestBits : ℕ → ℕ → ℕ → Type 0
LacksLowestBits n old rest = (k : ℕ) → k < 64 → is_bit rest k ≡ (is_bit old k && not (nat_lt (how_many k (is_bit old)) n))

none_below_zero : (x : Bool) (r : ℕ) → x ≡ (x && not (nat_lt r 0))
none_below_zero true r = grind (arith, nat_tests)
none_below_zero false r = refl

pub lacks_none : (w : ℕ) → LacksLowestBits 0 w w
lacks_none w k lt = none_below_zero (is_bit w k) (how_many k (is_bit w))

one_more : (x : Bool) → x ≡ true → one x ≡ 1
one_more true e = refl
one_more false e = absurd (cc e)

one_at_most : (x : Bool) (a b : ℕ) → a ≤ b → b < a + one x → x ≡ true
one_at_most true a b le lt = refl
one_at_most false a b le lt = absurd (omega arith)

-- the number of which f holds and below which it holds of j
record IsRanked (f : ℕ → Bool) (t j k : ℕ) : Type 0 where
  below : k < t
  holds : f k ≡ true
  rank : how_many k f ≡ j

ranked_at : (t j : ℕ) (f : ℕ → Bool) → j < how_many t f → (k : ℕ) × IsRanked f t j k
ranked_at zero j f lt = absurd (omega arith)
ranked_at (suc t) j f lt = elim (cases_lt j (how_many t f)) [
  | inl earlier ↦ let at = ranked_at t j f earlier in (at.0, record { below = omega (arith, at.1.below); holds = at.1.holds; rank = at.1.rank })
  | inr here ↦ let holds = one_at_most (f t) (how_many t f) j here lt in (t, record { below = omega arith; holds = holds; rank = omega (arith, here, lt, one_more (f t) holds) })
]

both_true : (x y : Bool) → true ≡ (x && not y) → (x ≡ true) × (y ≡ false)
both_true true true e = absurd (cc e)
both_true true false e = (refl, refl)
both_true false y e = absurd (cc e)

not_lt : (r j : ℕ) → nat_lt r j ≡ false → j ≤ r
not_lt r j e = grind (arith, nat_tests)

-- how many bits of the old word stand below the lowest that is left
rank_of_lowest : (old rest n t : ℕ) → IsLowestBit rest t → LacksLowestBits n old rest → (is_bit old t ≡ true) × (how_many t (is_bit old) ≡ n)
rank_of_lowest old rest n t low lacks =
    let f : ℕ → Bool = is_bit old in
    let parts = both_true (f t) (nat_lt (how_many t f) n) (sym low.set ∙ lacks t low.within) in
    let not_fewer = not_lt (how_many t f) n parts.1 in (
      parts.0,
      elim (cases_lt n (how_many t f)) [
        | inl more ↦
            let at = ranked_at t n f more in
            let here : is_bit rest at.0 ≡ true = lacks at.0 (omega (arith, at.1.below, low.within)) ∙ rw (at.1.holds, at.1.rank) (grind (arith, nat_tests)) in
            absurd (cc (here, low.clear at.0 at.1.below))
        | inr le ↦ omega arith
      ],
    )

distinct_step : (x : Bool) (r n : ℕ) → (x ≡ true → r ≢ n) → (x && not (nat_lt r n)) ≡ (x && not (nat_lt r (n + 1)))
distinct_step true r n distinct = let ne = distinct refl in grind (arith, nat_tests)
distinct_step false r n distinct = refl

this_gone : (x : Bool) (r n : ℕ) → r ≡ n → false ≡ (x && not (nat_lt r (n + 1)))
this_gone true r n e = grind (arith, nat_tests)
this_gone false r n e = refl

ranks_distinct : (f : ℕ → Bool) (k t : ℕ) → f k ≡ true → f t ≡ true → k ≢ t → how_many k f ≢ how_many t f
ranks_distinct f k t at_k at_t ne same = elim (cases_lt k t) [
  | inl lt ↦ omega (arith, how_many-rises (suc k) t f lt, one_more (f k) at_k)
  | inr le ↦ omega (arith, how_many-rises (suc t) k f (omega arith), one_more (f t) at_t)
]

pub lacks_more : (old rest n : ℕ) → 0 < rest → rest < 2 ^ 64 → LacksLowestBits n old rest → LacksLowestBits (n + 1) old (bit_and rest (rest - 1))
lacks_more old rest n some fits lacks k lt =
    let t : ℕ = trailing_zeros w64 rest in
    let low = lowest_bit rest some fits in
    let ranked = rank_of_lowest old rest n t low lacks in
    elim (cases_eq k t) [
      | inl same ↦ rw same (lowest_cleared rest t low ∙ this_gone (is_bit old t) (how_many t (is_bit old)) n ranked.1)
      | inr other ↦ others_stay rest t k low other ∙ (lacks k lt ∙ distinct_step (is_bit old k) (how_many k (is_bit old)) n (λ at_k e. ranks_distinct (is_bit old) k t at_k ranked.0 other (e ∙ sym ranked.1)))
    ]

gone_already : (x : Bool) (r n : ℕ) → false ≡ (x && not (nat_lt r n)) → false ≡ (x && not (nat_lt r (n + 1)))
gone_already true r n e = grind (arith, nat_tests)
gone_already false r n e = refl

pub lacks_all : (old n : ℕ) → LacksLowestBits n old 0 → LacksLowestBits (n + 1) old 0
lacks_all old n lacks k lt = no_bit k ∙ gone_already (is_bit old k) (how_many k (is_bit old)) n (sym (no_bit k) ∙ lacks k lt)

taken_back : (x y : Bool) → (x && not (x && not y)) ≡ (x && y)
taken_back true true = refl
taken_back true false = refl
taken_back false y = refl

pub lowest_taken : (old rest n : ℕ) → rest < 2 ^ 64 → LacksLowestBits n old rest → HasLowestBits n old (and_not old rest)
lowest_taken old rest n fits lacks k lt =
    and_not_is old rest k fits lt ∙ rw (lacks k lt) (taken_back (is_bit old k) (nat_lt (how_many k (is_bit old)) n))

pub lowest_all_bits : (w n : ℕ) → how_many 64 (is_bit w) ≤ n → HasLowestBits n w w
lowest_all_bits w n few k lt =
    all_low (is_bit w k) (how_many k (is_bit w)) n (λ at. omega (arith, few, how_many-rises (suc k) 64 (is_bit w) lt, one_more (is_bit w k) at))

no_lower : (x : Bool) (r n : ℕ) → n ≡ 0 → false ≡ (x && nat_lt r n)
no_lower true r n e = grind (arith, nat_tests)
no_lower false r n e = refl

pub lowest_no_bits : (w n : ℕ) → n ≡ 0 → HasLowestBits n w 0
lowest_no_bits w n none k lt = no_bit k ∙ no_lower (is_bit w k) (how_many k (is_bit w)) n none

-- ---- the bits below n
pub bits_below_are : (n : ℕ) → n < 64 → HasBitsBelow n ((1 * 2 ^ n) % 2 ^ 64 - 1)
bits_below_are n lt k below =
    let one : 1 * 2 ^ n ≡ 2 ^ n = omega arith in
    let whole : (1 * 2 ^ n) % 2 ^ 64 ≡ 2 ^ n = ap (λ m. m % 2 ^ 64) one ∙ mod-eq_of_lt (pow-lt lt) in
    rw whole (low_ones n k)

pub bits_below_all : (n : ℕ) → 64 ≤ n → HasBitsBelow n (2 ^ 64 - 1)
bits_below_all n le k below = low_ones 64 k ∙ (grind (arith, nat_tests))

-- the same as the code computes it, where nothing may be left
pub lacks_next : (old rest n : ℕ) → rest < 2 ^ 64 → LacksLowestBits n old rest → LacksLowestBits (n + 1) old (bit_and rest ((rest + 18446744073709551615) % 18446744073709551616))
lacks_next old rest n fits lacks = elim (cases_eq rest 0) [
  | inl none ↦ none_left none
  | inr some ↦
      let less : (rest + 18446744073709551615) % 18446744073709551616 ≡ rest - 1 = omega arith in
      subst (λ m. LacksLowestBits (n + 1) old (bit_and rest m)) (sym less) (lacks_more old rest n (omega arith) fits lacks)
]
  where
    none_left : rest ≡ 0 → LacksLowestBits (n + 1) old (bit_and rest ((rest + 18446744073709551615) % 18446744073709551616))
    none_left none = subst (λ m. LacksLowestBits (n + 1) old (bit_and m ((rest + 18446744073709551615) % 18446744073709551616))) (sym none) (lacks_all old n (subst (LacksLowestBits n old) none lacks))
