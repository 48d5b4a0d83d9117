-- Walks over words, which have come to word i.
use Rattle.std.proofs.Common.{ℕ, zero, suc, ◌≡◌, ◌≢◌, ◌+◌, ◌-◌, ◌*◌, ◌/◌, ◌^◌, ◌<◌, ◌≤◌, Bool, true, false, ◌&&◌, List, length, take, get_or, min, refl, ap, sym, subst, ◌∙◌, arith, inl, inr}
use Rattle.std.specs.Prelude.{nat_lt, count_ones, slice_set, sum_by}
use Rattle.std.proofs.lemmas.Bool.{cases_lt}
use Rattle.std.proofs.lemmas.Bool.Decides.{nat_tests}
use Rattle.std.proofs.lemmas.List.{get_or-set_other, get_or-set_same, length-set, take_all}
use Rattle.std.proofs.lemmas.List.Sums.{sum_by_more}
use Rattle.bit_planes.specs.Private.Bits.{is_bit, bit_of, HasBitsBelow, HasLowestBits}
use Rattle.bit_planes.specs.PartitionSet.{one, how_many}
use Rattle.bit_planes.proofs.Sets.{how_many-none, how_many-lowest}
use Rattle.bit_planes.proofs.WordBits.{no_bit, ones_are}
use Rattle.bit_planes.proofs.Words.{marked_at, marked_else, none_past}

pub marks_split : (words : List ℕ) (i k : ℕ) → k ≤ 64 → how_many (64 * i + k) (bit_of words) ≡ how_many (64 * i) (bit_of words) + how_many k (is_bit (get_or words i 0))
marks_split words i zero le = let e : 64 * i + 0 ≡ 64 * i = omega arith in rw e (omega arith)
marks_split words i (suc k) le =
    let e : 64 * i + suc k ≡ suc (64 * i + k) = omega arith in
    let before = marks_split words i k (omega arith) in
    let here = ap one (marked_at words (64 * i + k) i k refl (omega arith)) in
    rw e (omega (arith, before, here))

-- ---- counted
pub marks_counted : (words : List ℕ) (i : ℕ) → ((j : ℕ) → get_or words j 0 < 2 ^ 64) → i ≤ length words → sum_by count_ones (take i words) ≡ how_many (64 * i) (bit_of words)
marks_counted words zero fits le = refl
marks_counted words (suc i) fits le =
    let next : suc i ≡ i + 1 = omega arith in
    let more : 64 * (i + 1) ≡ 64 * i + 64 = omega arith in
    rw (next, more) (sum_by_more count_ones words i 0 (omega arith) ∙ rw (marks_counted words i fits (omega arith), ones_are (get_or words i 0) (fits i)) (sym (marks_split words i 64 (omega arith))))

pub marks_counted_all : (words : List ℕ) → ((j : ℕ) → get_or words j 0 < 2 ^ 64) → sum_by count_ones words ≡ how_many (64 * length words) (bit_of words)
marks_counted_all words fits = ap (sum_by count_ones) (sym (take_all (length words) words (omega arith))) ∙ marks_counted words (length words) fits (omega arith)

-- ---- the numbers below n marked
pub record AreFilled (n long i : ℕ) (words : List ℕ) : Type 0 where
  pub length_is : length words ≡ long
  pub done : (q : ℕ) → q < 64 * i → bit_of words q ≡ nat_lt q n

shifted_lt : (a k n : ℕ) → nat_lt k (n - a) ≡ nat_lt (a + k) n
shifted_lt a k n = grind (arith, nat_tests)

pub filled_more : (n long i : ℕ) (words : List ℕ) (w : ℕ) → i < long → HasBitsBelow (n - i * 64) w → AreFilled n long i words → AreFilled n long (i + 1) (slice_set words i w)
filled_more n long i words w lt bits before =
    let long_is = before.length_is in
    record {
      length_is = length-set words i w ∙ before.length_is;
      done = λ q below. elim (cases_lt q (64 * i)) [
        | inl earlier ↦ let other : q / 64 ≢ i = omega arith in marked_else words i w q other ∙ before.done q earlier
        | inr here ↦
            let k : ℕ = q - 64 * i in
            let at : q ≡ i * 64 + k = omega arith in
            marked_at (slice_set words i w) q i k (omega arith) (omega arith) ∙ (ap (λ v. is_bit v k) (get_or-set_same words i w 0 (omega arith)) ∙ (bits k (omega arith) ∙ (shifted_lt (i * 64) k n ∙ ap (λ m. nat_lt m n) (sym at))))
      ];
    }

-- ---- the n lowest marks left
pub record AreRetained (old : List ℕ) (n i left : ℕ) (words : List ℕ) : Type 0 where
  pub length_is : length words ≡ length old
  pub counted : left ≡ n - how_many (64 * i) (bit_of old)
  pub done : (q : ℕ) → q < 64 * i → bit_of words q ≡ (bit_of old q && nat_lt (how_many q (bit_of old)) n)
  pub rest : (j : ℕ) → i ≤ j → get_or words j 0 ≡ get_or old j 0

pub retained_none : (old : List ℕ) (n : ℕ) → AreRetained old n 0 n old
retained_none old n = record { length_is = refl; counted = omega arith; done = λ q lt. absurd (omega arith); rest = λ j le. refl }

pub retained_more : (old : List ℕ) (n i left : ℕ) (words : List ℕ) (w v ones : ℕ) → i < length words → w ≡ get_or words i 0 → ones ≡ how_many 64 (is_bit w) → HasLowestBits left w v → AreRetained old n i left words → AreRetained old n (i + 1) (left - ones) (slice_set words i v)
retained_more old n i left words w v ones lt e counted bits before =
    let left_is = before.counted in
    let here : w ≡ get_or old i 0 = e ∙ before.rest i (omega arith) in
    let whole : 64 * (i + 1) ≡ 64 * i + 64 = omega arith in
    let more : how_many (64 * (i + 1)) (bit_of old) ≡ how_many (64 * i) (bit_of old) + ones =
    ap (λ m. how_many m (bit_of old)) whole ∙ (marks_split old i 64 (omega arith) ∙ ap (λ m. how_many (64 * i) (bit_of old) + m) (ap (λ x. how_many 64 (is_bit x)) (sym here) ∙ sym counted)) in
    record {
      length_is = length-set words i v ∙ before.length_is;
      counted = omega arith;
      done = λ q below. elim (cases_lt q (64 * i)) [
        | inl earlier ↦ let other : q / 64 ≢ i = omega arith in marked_else words i v q other ∙ before.done q earlier
        | inr late ↦
            let k : ℕ = q - 64 * i in
            let at : q ≡ 64 * i + k = omega arith in
            let above : how_many q (bit_of old) ≡ how_many (64 * i) (bit_of old) + how_many k (is_bit w) =
            ap (λ m. how_many m (bit_of old)) at ∙ (marks_split old i k (omega arith) ∙ ap (λ x. how_many (64 * i) (bit_of old) + how_many k (is_bit x)) (sym here)) in
            let mine : is_bit w k ≡ bit_of old q = ap (λ x. is_bit x k) here ∙ sym (marked_at old q i k at (omega arith)) in
            marked_at (slice_set words i v) q i k at (omega arith)
            ∙ (ap (λ x. is_bit x k) (get_or-set_same words i v 0 lt)
            ∙ (bits k (omega arith)
            ∙ rw (mine, above, before.counted) (ap (λ b. bit_of old q && b) (shifted_lt (how_many (64 * i) (bit_of old)) (how_many k (is_bit w)) n))))
      ];
      rest = λ j le. let other : j ≢ i = omega arith in get_or-set_other words i j v 0 other ∙ before.rest j (omega arith);
    }

pub retained_counted : (old : List ℕ) (n i left : ℕ) (words : List ℕ) (w v ones after : ℕ) → i < length words → w ≡ get_or words i 0 → ones ≡ how_many 64 (is_bit v) → after ≡ left - ones → HasLowestBits left w v → AreRetained old n i left words → AreRetained old n (i + 1) after (slice_set words i v)
retained_counted old n i left words w v ones after lt e counted less bits before =
    let fewer : how_many 64 (is_bit v) ≡ min left (how_many 64 (is_bit w)) = how_many-lowest left 64 (is_bit w) (is_bit v) bits in
    let same : left - how_many 64 (is_bit w) ≡ after = omega arith in
    subst (λ m. AreRetained old n (i + 1) m (slice_set words i v)) same (retained_more old n i left words w v (how_many 64 (is_bit w)) lt e refl bits before)

none_and : (x y : Bool) → x ≡ false → x ≡ (x && y)
none_and true y e = absurd (cc e)
none_and false y e = refl

pub retained_zero : (old : List ℕ) (n i left : ℕ) (words : List ℕ) → get_or words i 0 ≡ 0 → AreRetained old n i left words → AreRetained old n (i + 1) left words
retained_zero old n i left words none before =
    let left_is = before.counted in
    let old_none : get_or old i 0 ≡ 0 = sym (before.rest i (omega arith)) ∙ none in
    let whole : 64 * (i + 1) ≡ 64 * i + 64 = omega arith in
    let no_marks : how_many 64 (is_bit (get_or old i 0)) ≡ 0 = how_many-none 64 (is_bit (get_or old i 0)) (λ k lt. ap (λ x. is_bit x k) old_none ∙ no_bit k) in
    let more : how_many (64 * (i + 1)) (bit_of old) ≡ how_many (64 * i) (bit_of old) =
    ap (λ m. how_many m (bit_of old)) whole ∙ (marks_split old i 64 (omega arith) ∙ omega (arith, no_marks)) in
    record {
      length_is = before.length_is;
      counted = omega arith;
      done = λ q below. elim (cases_lt q (64 * i)) [
        | inl earlier ↦ before.done q earlier
        | inr late ↦
            let k : ℕ = q - 64 * i in
            let at : q ≡ 64 * i + k = omega arith in
            let mine : bit_of words q ≡ false = marked_at words q i k at (omega arith) ∙ (ap (λ x. is_bit x k) none ∙ no_bit k) in
            let theirs : bit_of old q ≡ false = marked_at old q i k at (omega arith) ∙ (ap (λ x. is_bit x k) old_none ∙ no_bit k) in
            mine ∙ (sym theirs ∙ none_and (bit_of old q) (nat_lt (how_many q (bit_of old)) n) theirs)
      ];
      rest = λ j le. before.rest j (omega arith);
    }

pub retained_all : (old : List ℕ) (n i left : ℕ) (words : List ℕ) → length words ≤ i → AreRetained old n i left words → (q : ℕ) → bit_of words q ≡ (bit_of old q && nat_lt (how_many q (bit_of old)) n)
retained_all old n i left words le all q =
    let len = all.length_is in
    elim (cases_lt q (64 * i)) [
      | inl lt ↦ all.done q lt
      | inr past ↦
          let none = none_past old q (omega arith) in
          none_past words q (omega arith) ∙ (sym none ∙ none_and (bit_of old q) (nat_lt (how_many q (bit_of old)) n) none)
    ]
