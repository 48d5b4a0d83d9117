-- Numbers that are marked in the bits of words.
use Rattle.std.proofs.Common.{ℕ, ◌≡◌, ◌≢◌, ◌+◌, ◌-◌, ◌*◌, ◌/◌, ◌%◌, ◌^◌, ◌<◌, ◌≤◌, ◌==◌, Bool, true, false, ◌||◌, ◌&&◌, not, List, length, get_or, refl, ap, sym, ◌∙◌, arith, inl, inr, bit_and, bit_or, div-le_self}
use Rattle.std.specs.Prelude.{slice_set}
use Rattle.std.specs.Int.{trailing_zeros, w64}
use Rattle.std.proofs.lemmas.Bool.{cases_lt, cases_eq}
use Rattle.std.proofs.lemmas.Bool.Decides.{nat_tests}
use Rattle.std.proofs.lemmas.List.{get_or_past, get_or-set_other, get_or-set_same}
use Rattle.std.proofs.lemmas.Nat.{shr-shr}
use Rattle.std.proofs.lemmas.Nat.Bits.{bit_at_set_same, bit_at_set_other, bit_at_clear_same, bit_at_clear_other, shr_and_one}
use Rattle.bit_planes.specs.Private.Bits.{is_bit, bit_of, AreClearFrom, IsLowestFrom}
use Rattle.bit_planes.proofs.WordBits.{no_bit, no_bit_above, bit_is, bit_of_at, lowest_bit}

bit_of_is : (words : List ℕ) (q : ℕ) → bit_of words q ≡ is_bit (get_or words (q / 64) 0) (q % 64)
unfolding bit_of
bit_of_is words q = refl

pub marked_at : (words : List ℕ) (q i k : ℕ) → q ≡ 64 * i + k → k < 64 → bit_of words q ≡ is_bit (get_or words i 0) k
marked_at words q i k e lt =
    let word : q / 64 ≡ i = omega arith in
    let bit : q % 64 ≡ k = omega arith in
    bit_of_is words q ∙ rw (word, bit) refl

pub none_past : (words : List ℕ) (q : ℕ) → 64 * length words ≤ q → bit_of words q ≡ false
none_past words q le =
    let none = get_or_past words (q / 64) 0 (omega arith) in
    bit_of_is words q ∙ rw none (no_bit (q % 64))

-- ---- the lowest number from another on, in a walk over words that has come to word i
pub record AreClearTo (words : List ℕ) (from to : ℕ) : Type 0 where
  pub clear : (q : ℕ) → from ≤ q → q < to → bit_of words q ≡ false

shifted : (w s k : ℕ) → is_bit (w / 2 ^ s) k ≡ is_bit w (s + k)
shifted w s k = bit_of_at (w / 2 ^ s) w k (s + k) (ap (λ n. n % 2) (shr-shr w s k))

pub clear_past : (words : List ℕ) (from : ℕ) → length words ≤ from / 64 → AreClearFrom words from
clear_past words from le q below = none_past words q (omega arith)

pub found_first : (words : List ℕ) (from w : ℕ) → from / 64 < length words → w ≡ get_or words (from / 64) 0 → w < 2 ^ 64 → 0 < w / 2 ^ (from % 64) → IsLowestFrom words from (from + trailing_zeros w64 (w / 2 ^ (from % 64)))
found_first words from w within e fits some =
    let s : ℕ = from % 64 in
    let t : ℕ = trailing_zeros w64 (w / 2 ^ s) in
    let low = lowest_bit (w / 2 ^ s) some (omega (arith, fits, div-le_self w (2 ^ s))) in
    let there : is_bit w (s + t) ≡ true = sym (shifted w s t) ∙ low.set in
    let in_word : s + t < 64 = elim (cases_lt (s + t) 64) [ inl lt ↦ lt | inr le ↦ let none = no_bit_above w (s + t) fits le in absurd (cc (none, there)) ] in
    let at : bit_of words (from + t) ≡ true = marked_at words (from + t) (from / 64) (s + t) (omega arith) in_word ∙ (ap (λ v. is_bit v (s + t)) (sym e) ∙ there) in
    record {
      set = at;
      not_below = omega arith;
      within = omega arith;
      clear = λ n le lt. let j : ℕ = n - from in
          marked_at words n (from / 64) (s + j) (omega arith) (omega arith) ∙ (ap (λ v. is_bit v (s + j)) (sym e) ∙ (sym (shifted w s j) ∙ low.clear j (omega arith)));
    }

pub first_clear : (words : List ℕ) (from w : ℕ) → w ≡ get_or words (from / 64) 0 → w / 2 ^ (from % 64) ≡ 0 → AreClearTo words from (64 * (from / 64 + 1))
first_clear words from w e none = record {
  clear = λ q le lt.
      let s : ℕ = from % 64 in
      let j : ℕ = q - from in
      marked_at words q (from / 64) (s + j) (omega arith) (omega arith) ∙ (ap (λ v. is_bit v (s + j)) (sym e) ∙ (sym (shifted w s j) ∙ (ap (λ v. is_bit v j) none ∙ no_bit j)));
}

pub found_in : (words : List ℕ) (from i w : ℕ) → i < length words → w ≡ get_or words i 0 → 0 < w → w < 2 ^ 64 → from ≤ 64 * i → AreClearTo words from (64 * i) → IsLowestFrom words from (i * 64 + trailing_zeros w64 w)
found_in words from i w within e some fits le before =
    let t : ℕ = trailing_zeros w64 w in
    let low = lowest_bit w some fits in
    let in_word = low.within in
    record {
      set = marked_at words (i * 64 + t) i t (omega arith) low.within ∙ (ap (λ v. is_bit v t) (sym e) ∙ low.set);
      not_below = omega arith;
      within = omega arith;
      clear = λ n from_le lt. elim (cases_lt n (64 * i)) [
        | inl earlier ↦ before.clear n from_le earlier
        | inr here ↦ let j : ℕ = n - 64 * i in marked_at words n i j (omega arith) (omega arith) ∙ (ap (λ v. is_bit v j) (sym e) ∙ low.clear j (omega arith))
      ];
    }

pub clear_more : (words : List ℕ) (from i : ℕ) → get_or words i 0 ≡ 0 → AreClearTo words from (64 * i) → AreClearTo words from (64 * (i + 1))
clear_more words from i none before = record {
  clear = λ q le lt. elim (cases_lt q (64 * i)) [
    | inl earlier ↦ before.clear q le earlier
    | inr here ↦ let j : ℕ = q - 64 * i in marked_at words q i j (omega arith) (omega arith) ∙ (ap (λ v. is_bit v j) none ∙ no_bit j)
  ];
}

pub clear_all : (words : List ℕ) (from i : ℕ) → length words ≤ i → AreClearTo words from (64 * i) → AreClearFrom words from
clear_all words from i le before q from_le = elim (cases_lt q (64 * i)) [
  | inl lt ↦ before.clear q from_le lt
  | inr past ↦ none_past words q (omega arith)
]

-- ---- one number's mark
pub marked_else : (words : List ℕ) (i w q : ℕ) → q / 64 ≢ i → bit_of (slice_set words i w) q ≡ bit_of words q
marked_else words i w q other = bit_of_is (slice_set words i w) q ∙ (ap (λ v. is_bit v (q % 64)) (get_or-set_other words i (q / 64) w 0 other) ∙ sym (bit_of_is words q))

marked_here : (words : List ℕ) (i w q : ℕ) → i < length words → q / 64 ≡ i → bit_of (slice_set words i w) q ≡ is_bit w (q % 64)
marked_here words i w q lt e = bit_of_is (slice_set words i w) q ∙ rw e (ap (λ v. is_bit v (q % 64)) (get_or-set_same words i w 0 lt))

same_id : (n q : ℕ) → n ≡ q → (n == q) ≡ true
same_id n q e = grind (arith, nat_tests)

other_id : (n q : ℕ) → n ≢ q → (n == q) ≡ false
other_id n q ne = grind (arith, nat_tests)

or_true : (x y z : Bool) → z ≡ true → y ≡ true → z ≡ (x || y)
or_true true y z e h = e
or_true false y z e h = e ∙ sym h

or_false : (x y : Bool) → y ≡ false → x ≡ (x || y)
or_false true y h = refl
or_false false y h = sym h

and_true : (x y : Bool) → y ≡ true → false ≡ (x && not y)
and_true true y h = rw h refl
and_true false y h = refl

and_false : (x y : Bool) → y ≡ false → x ≡ (x && not y)
and_false true y h = rw h refl
and_false false y h = refl

pub set_one : (words : List ℕ) (q n : ℕ) → q < 64 * length words → bit_of (slice_set words (q / 64) (bit_or (get_or words (q / 64) 0) ((1 * 2 ^ (q % 64)) % 2 ^ 64))) n ≡ (bit_of words n || (n == q))
set_one words q n lt =
    let old : ℕ = get_or words (q / 64) 0 in
    let k : ℕ = q % 64 in
    let w : ℕ = bit_or old ((1 * 2 ^ k) % 2 ^ 64) in
    elim (cases_eq (n / 64) (q / 64)) [
      | inr other ↦ let ne : n ≢ q = omega arith in marked_else words (q / 64) w n other ∙ or_false (bit_of words n) (n == q) (other_id n q ne)
      | inl word ↦ marked_here words (q / 64) w n (omega arith) word ∙ elim (cases_eq (n % 64) k) [
        | inl bit ↦
            let same : n ≡ q = omega arith in
            rw bit (or_true (bit_of words n) (n == q) (is_bit w k) (bit_is w k ∙ ap (λ m. m == 1) (bit_at_set_same w64 old k (omega arith))) (same_id n q same))
        | inr distinct ↦
            let ne : n ≢ q = omega arith in
            bit_of_at w old (n % 64) (n % 64) (bit_at_set_other w64 old k (omega arith) (n % 64) distinct)
            ∙ (ap (λ i. is_bit (get_or words i 0) (n % 64)) (sym word) ∙ (sym (bit_of_is words n) ∙ or_false (bit_of words n) (n == q) (other_id n q ne)))
      ]
    ]

pub clear_one : (words : List ℕ) (q n : ℕ) → q < 64 * length words → bit_of (slice_set words (q / 64) (bit_and (get_or words (q / 64) 0) (18446744073709551615 - (1 * 2 ^ (q % 64)) % 2 ^ 64))) n ≡ (bit_of words n && not (n == q))
clear_one words q n lt =
    let old : ℕ = get_or words (q / 64) 0 in
    let k : ℕ = q % 64 in
    let w : ℕ = bit_and old (18446744073709551615 - (1 * 2 ^ k) % 2 ^ 64) in
    elim (cases_eq (n / 64) (q / 64)) [
      | inr other ↦ let ne : n ≢ q = omega arith in marked_else words (q / 64) w n other ∙ and_false (bit_of words n) (n == q) (other_id n q ne)
      | inl word ↦ marked_here words (q / 64) w n (omega arith) word ∙ elim (cases_eq (n % 64) k) [
        | inl bit ↦
            let same : n ≡ q = omega arith in
            rw bit (bit_is w k ∙ ap (λ m. m == 1) (bit_at_clear_same w64 old k (omega arith)) ∙ and_true (bit_of words n) (n == q) (same_id n q same))
        | inr distinct ↦
            let ne : n ≢ q = omega arith in
            bit_of_at w old (n % 64) (n % 64) (bit_at_clear_other w64 old k (omega arith) (n % 64) (omega arith) distinct)
            ∙ (ap (λ i. is_bit (get_or words i 0) (n % 64)) (sym word) ∙ (sym (bit_of_is words n) ∙ and_false (bit_of words n) (n == q) (other_id n q ne)))
      ]
    ]

pub test_is : (words : List ℕ) (q : ℕ) → (bit_and (get_or words (q / 64) 0 / 2 ^ (q % 64)) 1 == 1) ≡ bit_of words q
test_is words q = ap (λ n. n == 1) (shr_and_one (get_or words (q / 64) 0) (q % 64)) ∙ (sym (bit_is (get_or words (q / 64) 0) (q % 64)) ∙ sym (bit_of_is words q))
