-- Two lists of words of the same length, pair by pair.
use Rattle.std.proofs.Common.{ℕ, zero, suc, ◌≡◌, ◌+◌, ◌-◌, ◌*◌, ◌/◌, ◌%◌, ◌^◌, ◌<◌, ◌==◌, Bool, true, false, ◌||◌, ◌&&◌, not, List, [], ◌∷◌, length, get_or, refl, ap, sym, ◌∙◌, arith, inl, inr, bit_and, bit_or}
use Rattle.std.specs.Prelude.{IsTrue, ◌↔◌}
use Rattle.std.specs.Int.{trailing_zeros, w64}
use Rattle.std.specs.Simd.Lanes.{zip2}
use Rattle.std.proofs.lemmas.Bool.{cases_lt, cases_eq}
use Rattle.std.proofs.lemmas.Bool.Decides.{nat_tests}
use Rattle.std.proofs.lemmas.Nat.{or_lt, and_le_l}
use Rattle.std.proofs.lemmas.Simd.{get_or-zip2, length-zip2}
use Rattle.lane_words.specs.Words.{and_not, any_set}
use Rattle.bit_planes.specs.Private.Bits.{is_bit, bit_of}
use Rattle.bit_planes.specs.PartitionSet.{any_below}
use Rattle.bit_planes.proofs.Sets.{any_below-at, any_below-of_none}
use Rattle.bit_planes.proofs.WordBits.{no_bit, lowest_bit, bit_or_is, bit_and_is, and_not_is, same_word}
use Rattle.bit_planes.proofs.Words.{marked_at, none_past}

-- f works on words as g does on each of their bits
pub record IsBitwise (f : ℕ → ℕ → ℕ) (g : Bool → Bool → Bool) : Type 0 where
  pub bits : (x y k : ℕ) → y < 2 ^ 64 → k < 64 → is_bit (f x y) k ≡ g (is_bit x k) (is_bit y k)
  pub fits : (x y : ℕ) → x < 2 ^ 64 → y < 2 ^ 64 → f x y < 2 ^ 64
  pub none : g false false ≡ false

pub or_bits : IsBitwise bit_or (λ x y. x || y)
or_bits = record { bits = λ x y k fits lt. bit_or_is x y k; fits = λ x y fx fy. or_lt 64 x y fx fy; none = refl }

pub and_bits : IsBitwise bit_and (λ x y. x && y)
and_bits = record { bits = λ x y k fits lt. bit_and_is x y k; fits = λ x y fx fy. omega (arith, fx, and_le_l x y); none = refl }

pub and_not_bits : IsBitwise and_not (λ x y. x && not y)
and_not_bits = record { bits = λ x y k fits lt. and_not_is x y k fits lt; fits = λ x y fx fy. omega (arith, fx, and_le_l x (2 ^ 64 - 1 - y)); none = refl }

-- a and b are words, and as many
pub record AreAlike (a b : List ℕ) : Type 0 where
  pub same : length a ≡ length b
  pub mine : (i : ℕ) → get_or a i 0 < 2 ^ 64
  pub theirs : (i : ℕ) → get_or b i 0 < 2 ^ 64

pub marks_of_pairs : (f : ℕ → ℕ → ℕ) (g : Bool → Bool → Bool) → IsBitwise f g → (a b : List ℕ) → length a ≡ length b → ((i : ℕ) → get_or b i 0 < 2 ^ 64) → (q : ℕ) → bit_of (zip2 f a b) q ≡ g (bit_of a q) (bit_of b q)
marks_of_pairs f g law a b same theirs q =
    let i : ℕ = q / 64 in
    let k : ℕ = q % 64 in
    let len : length (zip2 f a b) ≡ length a = length-zip2 f a b same in
    elim (cases_lt i (length a)) [
      | inl lt ↦
          marked_at (zip2 f a b) q i k (omega arith) (omega arith)
          ∙ rw (get_or-zip2 f a b i 0 0 0 lt (omega arith), marked_at a q i k (omega arith) (omega arith), marked_at b q i k (omega arith) (omega arith)) (law.bits (get_or a i 0) (get_or b i 0) k (theirs i) (omega arith))
      | inr past ↦
          none_past (zip2 f a b) q (omega arith) ∙ rw (none_past a q (omega arith), none_past b q (omega arith)) (sym law.none)
    ]

-- ---- whether a bit is set in what f makes of some pair
record IsSetAt (f : ℕ → ℕ → ℕ) (a b : List ℕ) (i : ℕ) : Type 0 where
  mine : i < length a
  theirs : i < length b
  some : 0 < f (get_or a i 0) (get_or b i 0)

neither : (x y : Bool) → (x || y) ≡ false → (x ≡ false) × (y ≡ false)
neither true y h = absurd (cc h)
neither false y h = (refl, h)

set_at : (f : ℕ → ℕ → ℕ) (a b : List ℕ) → any_set (zip2 f a b) ≡ true → (i : ℕ) × IsSetAt f a b i
set_at f [] b e = absurd (cc e)
set_at f (x ∷ a) [] e = absurd (cc e)
set_at f (x ∷ a) (y ∷ b) e = elim (cases_eq (f x y) 0) [
  | inr some ↦ (0, record { mine = omega arith; theirs = omega arith; some = omega arith })
  | inl none ↦
      let at = set_at f a b (later (f x y) none (any_set (zip2 f a b)) e) in
      (suc at.0, record { mine = omega (arith, at.1.mine); theirs = omega (arith, at.1.theirs); some = at.1.some })
]
  where
    later : (w : ℕ) → w ≡ 0 → (y : Bool) → (not (w == 0) || y) ≡ true → y ≡ true
    later w none y h = rw none at h

none_set : (f : ℕ → ℕ → ℕ) (a b : List ℕ) (i : ℕ) → any_set (zip2 f a b) ≡ false → i < length a → i < length b → f (get_or a i 0) (get_or b i 0) ≡ 0
none_set f [] b i e lt lt' = absurd (omega arith)
none_set f (x ∷ a) [] i e lt lt' = absurd (omega arith)
none_set f (x ∷ a) (y ∷ b) zero e lt lt' = unset (f x y) (neither (not (f x y == 0)) (any_set (zip2 f a b)) e).0
  where
    unset : (w : ℕ) → not (w == 0) ≡ false → w ≡ 0
    unset w h = grind (arith, nat_tests)
none_set f (x ∷ a) (y ∷ b) (suc i) e lt lt' = none_set f a b i (neither (not (f x y == 0)) (any_set (zip2 f a b)) e).1 (omega arith) (omega arith)

pub some_marked : (f : ℕ → ℕ → ℕ) (g : Bool → Bool → Bool) → IsBitwise f g → (a b : List ℕ) → AreAlike a b → any_set (zip2 f a b) ≡ any_below (64 * length a) (λ q. g (bit_of a q) (bit_of b q))
some_marked f g law a b alike = by_cases (any_set (zip2 f a b)) refl
  where
    h : ℕ → Bool
    h q = g (bit_of a q) (bit_of b q)

    here : (q i k : ℕ) → q ≡ 64 * i + k → k < 64 → g (bit_of a q) (bit_of b q) ≡ is_bit (f (get_or a i 0) (get_or b i 0)) k
    here q i k e lt = rw (marked_at a q i k e lt, marked_at b q i k e lt) (sym (law.bits (get_or a i 0) (get_or b i 0) k (alike.theirs i) lt))

    by_cases : (x : Bool) → any_set (zip2 f a b) ≡ x → any_set (zip2 f a b) ≡ any_below (64 * length a) (λ q. g (bit_of a q) (bit_of b q))
    by_cases true e =
        let at = set_at f a b e in
        let i : ℕ = at.0 in
        let w : ℕ = f (get_or a i 0) (get_or b i 0) in
        let low = lowest_bit w at.1.some (law.fits (get_or a i 0) (get_or b i 0) (alike.mine i) (alike.theirs i)) in
        let k : ℕ = trailing_zeros w64 w in
        e ∙ sym (any_below-at (64 * length a) (λ q. g (bit_of a q) (bit_of b q)) (64 * i + k) (omega (arith, low.within, at.1.mine)) (here (64 * i + k) i k refl low.within ∙ low.set))
    by_cases false e =
        let same = alike.same in
        e ∙ sym (any_below-of_none (64 * length a) (λ q. g (bit_of a q) (bit_of b q)) (λ q lt.
        here q (q / 64) (q % 64) (omega arith) (omega arith) ∙ (ap (λ w. is_bit w (q % 64)) (none_set f a b (q / 64) e (omega arith) (omega arith)) ∙ no_bit (q % 64))))

-- ---- words with the same marks
same_words : (a b : List ℕ) → length a ≡ length b → ((i : ℕ) → i < length a → get_or a i 0 ≡ get_or b i 0) → a ≡ b
same_words [] [] len same = refl
same_words [] (y ∷ b) len same = absurd (omega arith)
same_words (x ∷ a) [] len same = absurd (omega arith)
same_words (x ∷ a) (y ∷ b) len same = rw (same 0 (omega arith)) (ap (λ ws. y ∷ ws) (same_words a b (omega arith) (λ i lt. same (suc i) (omega arith))))

pub same_marks : (a b : List ℕ) → AreAlike a b → ((q : ℕ) → bit_of a q ≡ bit_of b q) → a ≡ b
same_marks a b alike marks = same_words a b alike.same (λ i lt.
    same_word (get_or a i 0) (get_or b i 0) (alike.mine i) (alike.theirs i) (λ k below. sym (marked_at a (64 * i + k) i k refl below) ∙ (marks (64 * i + k) ∙ marked_at b (64 * i + k) i k refl below)))

pub equal_marks : (a b : List ℕ) (x : Bool) → AreAlike a b → IsTrue x ↔ (a ≡ b) → IsTrue x ↔ ((q : ℕ) → bit_of a q ≡ bit_of b q)
equal_marks a b x alike iff = (λ h q. ap (λ ws. bit_of ws q) (iff.0 h), λ marks. iff.1 (same_marks a b alike marks))
