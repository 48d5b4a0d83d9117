-- A plane's words, seen as a set.
use Rattle.std.proofs.Common.{ℕ, zero, suc, ◌≡◌, ◌+◌, ◌-◌, ◌*◌, ◌/◌, ◌%◌, ◌<◌, ◌≤◌, ◌==◌, Bool, true, false, ◌||◌, ◌&&◌, not, List, ◌++◌, length, take, drop, replicate, refl, ap, sym, ◌∙◌, arith, inl, inr}
use Rattle.std.specs.Prelude.{nat_lt, IsTrue, ◌↔◌, IfSome, MatchOption, Option, Some, None}
use Rattle.std.proofs.lemmas.Bool.{cases_lt, lt-ltb, le-ltb}
use Rattle.std.proofs.lemmas.Bool.Decides.{nat_tests}
use Rattle.std.proofs.lemmas.List.{get_or-take, get_or-drop, get_or-append_right, get_or_append_left, get_or-replicate, length-take-le, length-replicate}
use Rattle.bit_planes.specs.Private.Bits.{is_bit, bit_of, AreClearFrom, IsLowestFrom}
use Rattle.bit_planes.specs.Private.ElementsFrom.{IsLowestElement}
use Rattle.bit_planes.specs.PartitionSet.{PartitionSet, partitions_of, is_in, set_where, any_below, how_many, rank, size, union, minus, lowest, full_set, empty_set, with_one, without_one, is_same}
use Rattle.bit_planes.proofs.Sets.{partitions_where, in_where, in_below, past, same_set, size_is, rank_is, how_many-same, how_many-stops, same_says, same_self, in_without, partitions_without}
use Rattle.bit_planes.proofs.WordBits.{no_bit}
use Rattle.bit_planes.proofs.Words.{marked_at, none_past}

-- the numbers below p that are marked
abbrev pub seen : ℕ → List ℕ → PartitionSet
seen p words = set_where p (bit_of words)

pub seen_below : (p : ℕ) (words : List ℕ) → partitions_of (seen p words) ≡ p
seen_below p words = partitions_where p (bit_of words)

pub below_is : (p : ℕ) (words : List ℕ) (s : PartitionSet) → seen p words ≡ s → partitions_of s ≡ p
below_is p words s e = sym (ap partitions_of e) ∙ seen_below p words

pub seen_where : (p : ℕ) (words : List ℕ) (f : ℕ → Bool) → ((q : ℕ) → q < p → bit_of words q ≡ f q) → seen p words ≡ set_where p f
seen_where p words f marks =
    let e = seen_below p words in
    same_set (seen p words) (set_where p f) (e ∙ sym (partitions_where p f)) (λ q lt. in_where p (bit_of words) q (omega arith) ∙ (marks q (omega arith) ∙ sym (in_where p f q (omega arith))))

pub marks_are : (p : ℕ) (words : List ℕ) (s : PartitionSet) → AreClearFrom words p → seen p words ≡ s → (q : ℕ) → bit_of words q ≡ is_in s q
marks_are p words s clear view q = elim (cases_lt q p) [
  | inl lt ↦ sym (in_where p (bit_of words) q lt) ∙ ap (λ t. is_in t q) view
  | inr le ↦ let below = below_is p words s view in clear q le ∙ sym (past s q (omega arith))
]

-- a plane, of whose words n are used
pub record IsShown (p n : ℕ) (words : List ℕ) (s : PartitionSet) : Type 0 where
  pub view : seen p words ≡ s
  pub clear : AreClearFrom words p
  pub long : length words ≡ 64
  pub few : p ≤ 4096
  pub enough : p ≤ 64 * n
  pub used : 64 * n < p + 64

front_at : (n : ℕ) (words : List ℕ) (q : ℕ) → n ≤ length words → q < 64 * n → bit_of (take n words) q ≡ bit_of words q
front_at n words q le lt =
    let i : ℕ = q / 64 in
    let k : ℕ = q % 64 in
    marked_at (take n words) q i k (omega arith) (omega arith) ∙ rw (get_or-take n words i 0 (omega arith)) (sym (marked_at words q i k (omega arith) (omega arith)))

pub long_front : (p n : ℕ) (words : List ℕ) (s : PartitionSet) → IsShown p n words s → length (take n words) ≡ n
long_front p n words s shown =
    let long = shown.long in
    let few = shown.few in
    let used = shown.used in
    length-take-le n words (omega arith)

pub shown_front : (p n : ℕ) (words : List ℕ) (s : PartitionSet) → IsShown p n words s → (q : ℕ) → bit_of (take n words) q ≡ is_in s q
shown_front p n words s shown q =
    let long = shown.long in
    let few = shown.few in
    let used = shown.used in
    let enough = shown.enough in
    let below = below_is p words s shown.view in
    elim (cases_lt q (64 * n)) [
      | inl lt ↦ front_at n words q (omega arith) lt ∙ marks_are p words s shown.clear shown.view q
      | inr le ↦ none_past (take n words) q (omega (arith, long_front p n words s shown)) ∙ sym (past s q (omega arith))
    ]

-- ---- other words in place of those that are used
spliced_below : (n : ℕ) (xs words : List ℕ) (q : ℕ) → length xs ≡ n → q < 64 * n → bit_of (xs ++ drop n words) q ≡ bit_of xs q
spliced_below n xs words q len lt =
    let i : ℕ = q / 64 in
    let k : ℕ = q % 64 in
    marked_at (xs ++ drop n words) q i k (omega arith) (omega arith) ∙ rw (get_or_append_left xs (drop n words) 0 i (omega arith)) (sym (marked_at xs q i k (omega arith) (omega arith)))

spliced_past : (n : ℕ) (xs words : List ℕ) (q : ℕ) → length xs ≡ n → 64 * n ≤ q → bit_of (xs ++ drop n words) q ≡ bit_of words q
spliced_past n xs words q len le =
    let i : ℕ = q / 64 in
    let k : ℕ = q % 64 in
    let same : n + (i - n) ≡ i = omega arith in
    marked_at (xs ++ drop n words) q i k (omega arith) (omega arith)
    ∙ rw (get_or-append_right xs (drop n words) n i 0 len (omega arith), get_or-drop n words (i - n) 0, same) (sym (marked_at words q i k (omega arith) (omega arith)))

pub spliced_seen : (p n : ℕ) (words : List ℕ) (s : PartitionSet) (xs : List ℕ) (f : ℕ → Bool) → IsShown p n words s → length xs ≡ length (take n words) → ((q : ℕ) → bit_of xs q ≡ f q) → seen p (xs ++ drop n words) ≡ set_where (partitions_of s) f
spliced_seen p n words s xs f shown len marks =
    let enough = shown.enough in
    let below = below_is p words s shown.view in
    seen_where p (xs ++ drop n words) f (λ q lt. spliced_below n xs words q (len ∙ long_front p n words s shown) (omega arith) ∙ marks q) ∙ ap (λ k. set_where k f) (sym below)

pub spliced_clear : (p n : ℕ) (words : List ℕ) (s : PartitionSet) (xs : List ℕ) (f : ℕ → Bool) → IsShown p n words s → length xs ≡ length (take n words) → ((q : ℕ) → bit_of xs q ≡ f q) → ((q : ℕ) → is_in s q ≡ false → p ≤ q → f q ≡ false) → AreClearFrom (xs ++ drop n words) p
spliced_clear p n words s xs f shown len marks none q le =
    let below = below_is p words s shown.view in
    elim (cases_lt q (64 * n)) [
      | inl lt ↦ spliced_below n xs words q (len ∙ long_front p n words s shown) lt ∙ (marks q ∙ none q (past s q (omega arith)) le)
      | inr past_n ↦ spliced_past n xs words q (len ∙ long_front p n words s shown) past_n ∙ shown.clear q le
    ]

pub seen_union : (p n : ℕ) (words : List ℕ) (s t : PartitionSet) (xs : List ℕ) → IsShown p n words s → length xs ≡ length (take n words) → ((q : ℕ) → bit_of xs q ≡ (is_in s q || is_in t q)) → seen p (xs ++ drop n words) ≡ union s t
unfolding union
seen_union p n words s t xs shown len marks = spliced_seen p n words s xs (λ q. is_in s q || is_in t q) shown len marks

pub seen_minus : (p n : ℕ) (words : List ℕ) (s t : PartitionSet) (xs : List ℕ) → IsShown p n words s → length xs ≡ length (take n words) → ((q : ℕ) → bit_of xs q ≡ (is_in s q && not (is_in t q))) → seen p (xs ++ drop n words) ≡ minus s t
unfolding minus
seen_minus p n words s t xs shown len marks = spliced_seen p n words s xs (λ q. is_in s q && not (is_in t q)) shown len marks

pub seen_lowest : (p n k : ℕ) (words : List ℕ) (s : PartitionSet) (xs : List ℕ) → IsShown p n words s → length xs ≡ length (take n words) → ((q : ℕ) → bit_of xs q ≡ (is_in s q && nat_lt (rank s q) k)) → seen p (xs ++ drop n words) ≡ lowest k s
unfolding lowest
seen_lowest p n k words s xs shown len marks = spliced_seen p n words s xs (λ q. is_in s q && nat_lt (rank s q) k) shown len marks

neither : (x y : Bool) → x ≡ false → y ≡ false → (x || y) ≡ false
neither true y e h = absurd (cc e)
neither false y e h = h

pub not_first : (x y : Bool) → x ≡ false → (x && y) ≡ false
not_first true y e = absurd (cc e)
not_first false y e = refl

pub union_clear : (p n : ℕ) (words : List ℕ) (s t : PartitionSet) (xs : List ℕ) → partitions_of s ≡ partitions_of t → IsShown p n words s → length xs ≡ length (take n words) → ((q : ℕ) → bit_of xs q ≡ (is_in s q || is_in t q)) → AreClearFrom (xs ++ drop n words) p
union_clear p n words s t xs same shown len marks =
    let below = below_is p words s shown.view in
    spliced_clear p n words s xs (λ q. is_in s q || is_in t q) shown len marks (λ q none le. neither (is_in s q) (is_in t q) none (past t q (omega arith)))

pub part_clear : (p n : ℕ) (words : List ℕ) (s : PartitionSet) (xs : List ℕ) (f : ℕ → Bool) → IsShown p n words s → length xs ≡ length (take n words) → ((q : ℕ) → bit_of xs q ≡ (is_in s q && f q)) → AreClearFrom (xs ++ drop n words) p
part_clear p n words s xs f shown len marks = spliced_clear p n words s xs (λ q. is_in s q && f q) shown len marks (λ q none le. not_first (is_in s q) (f q) none)

pub rank_shown : (p n : ℕ) (words : List ℕ) (s : PartitionSet) → IsShown p n words s → (q : ℕ) → how_many q (bit_of (take n words)) ≡ rank s q
rank_shown p n words s shown q = how_many-same q (bit_of (take n words)) (is_in s) (λ k lt. shown_front p n words s shown k) ∙ sym (rank_is s q)

-- ---- no marks, and all
pub unmarked : (n q : ℕ) → bit_of (replicate n 0) q ≡ false
unmarked n q = elim (cases_lt (q / 64) n) [
  | inl lt ↦ marked_at (replicate n 0) q (q / 64) (q % 64) (omega arith) (omega arith) ∙ (ap (λ w. is_bit w (q % 64)) (get_or-replicate n (q / 64) 0 0 lt) ∙ no_bit (q % 64))
  | inr le ↦ none_past (replicate n 0) q (omega (arith, length-replicate {A = ℕ} n 0))
]

pub seen_empty : (p n : ℕ) → seen p (replicate n 0) ≡ empty_set p
unfolding empty_set
seen_empty p n = seen_where p (replicate n 0) (λ q. false) (λ q lt. unmarked n q)

pub seen_full : (p : ℕ) (words : List ℕ) → ((q : ℕ) → q < p → bit_of words q ≡ nat_lt q p) → seen p words ≡ full_set p
unfolding full_set
seen_full p words marks = seen_where p words (λ q. true) (λ q lt. marks q lt ∙ lt-ltb q p lt)

pub full_clear : (p : ℕ) (words : List ℕ) → length words ≡ 64 → ((q : ℕ) → q < 4096 → bit_of words q ≡ nat_lt q p) → AreClearFrom words p
full_clear p words len marks q le = elim (cases_lt q 4096) [
  | inl lt ↦ marks q lt ∙ le-ltb q p le
  | inr past_all ↦ none_past words q (omega arith)
]

-- ---- one number more, or less
pub seen_with : (p : ℕ) (words old : List ℕ) (s : PartitionSet) (n : ℕ) → seen p old ≡ s → ((q : ℕ) → bit_of old q ≡ is_in s q) → ((q : ℕ) → bit_of words q ≡ (bit_of old q || (q == n))) → seen p words ≡ with_one s n
unfolding with_one
seen_with p words old s n view marks with = seen_where p words (λ q. is_in s q || (q == n)) (λ q lt. with q ∙ ap (λ b. b || (q == n)) (marks q)) ∙ ap (λ k. set_where k (λ q. is_in s q || (q == n))) (sym (below_is p old s view))

pub seen_without : (p : ℕ) (words old : List ℕ) (s : PartitionSet) (n : ℕ) → seen p old ≡ s → ((q : ℕ) → bit_of old q ≡ is_in s q) → ((q : ℕ) → bit_of words q ≡ (bit_of old q && not (q == n))) → seen p words ≡ without_one s n
unfolding without_one
seen_without p words old s n view marks with = seen_where p words (λ q. is_in s q && not (q == n)) (λ q lt. with q ∙ ap (λ b. b && not (q == n)) (marks q)) ∙ ap (λ k. set_where k (λ q. is_in s q && not (q == n))) (sym (below_is p old s view))

other_id : (q n : ℕ) → n < q → (q == n) ≡ false
other_id q n lt = grind (arith, nat_tests)

pub with_clear : (p : ℕ) (words old : List ℕ) (n : ℕ) → n < p → AreClearFrom old p → ((q : ℕ) → bit_of words q ≡ (bit_of old q || (q == n))) → AreClearFrom words p
with_clear p words old n lt clear with q le = with q ∙ neither (bit_of old q) (q == n) (clear q le) (other_id q n (omega arith))

pub without_clear : (p : ℕ) (words old : List ℕ) (n : ℕ) → AreClearFrom old p → ((q : ℕ) → bit_of words q ≡ (bit_of old q && not (q == n))) → AreClearFrom words p
without_clear p words old n clear with q le = with q ∙ not_first (bit_of old q) (not (q == n)) (clear q le)

pub without_past : (s : PartitionSet) (n : ℕ) → partitions_of s ≤ n → s ≡ without_one s n
without_past s n le = same_set s (without_one s n) (sym (partitions_without s n)) (λ q lt. stays (is_in s q) (q == n) (less_id q n (omega arith)) ∙ sym (in_without s n q))
  where
    stays : (x y : Bool) → y ≡ false → x ≡ (x && not y)
    stays true y e = rw e refl
    stays false y e = refl

    less_id : (q n : ℕ) → q < n → (q == n) ≡ false
    less_id q n lt = grind (arith, nat_tests)

-- ---- what holds of some number
any_below-same : (n : ℕ) (f g : ℕ → Bool) → ((q : ℕ) → f q ≡ g q) → any_below n f ≡ any_below n g
any_below-same zero f g same = refl
any_below-same (suc n) f g same = rw (any_below-same n f g same, same n) refl

any_below-stops : (p n : ℕ) (f : ℕ → Bool) → p ≤ n → ((q : ℕ) → p ≤ q → f q ≡ false) → any_below n f ≡ any_below p f
any_below-stops p zero f le none = let e : p ≡ 0 = omega arith in rw e refl
any_below-stops p (suc n) f le none = elim (cases_lt p (suc n)) [
  | inl lt ↦ rw (none n (omega arith), any_below-stops p n f (omega arith) none) (or_none (any_below p f))
  | inr ge ↦ let e : p ≡ suc n = omega arith in rw e refl
]
  where
    or_none : (x : Bool) → (x || false) ≡ x
    or_none true = refl
    or_none false = refl

pub some_shown : (p n m : ℕ) (words : List ℕ) (s : PartitionSet) (f g : ℕ → Bool) → IsShown p n words s → m ≡ length (take n words) → ((q : ℕ) → f q ≡ g q) → ((q : ℕ) → is_in s q ≡ false → g q ≡ false) → any_below (64 * m) f ≡ any_below (partitions_of s) g
some_shown p n m words s f g shown len same none =
    let enough = shown.enough in
    let below = below_is p words s shown.view in
    any_below-same (64 * m) f g same ∙ any_below-stops (partitions_of s) (64 * m) g (omega (arith, len, long_front p n words s shown)) (λ q le. none q (past s q le))

-- ---- counted
pub count_shown : (p n : ℕ) (words : List ℕ) (s : PartitionSet) → IsShown p n words s → how_many (64 * length (take n words)) (bit_of (take n words)) ≡ size s
count_shown p n words s shown =
    let enough = shown.enough in
    let below = below_is p words s shown.view in
    let m : ℕ = 64 * length (take n words) in
    how_many-same m (bit_of (take n words)) (is_in s) (λ q lt. shown_front p n words s shown q)
    ∙ (how_many-stops (partitions_of s) m (is_in s) (past s) (omega (arith, long_front p n words s shown)) ∙ sym (size_is s))

-- ---- the same set
pub same_shown : (p n p' n' : ℕ) (words others : List ℕ) (s t : PartitionSet) (x : Bool) → IsShown p n words s → IsShown p' n' others t → partitions_of s ≡ partitions_of t
    → IsTrue x ↔ ((q : ℕ) → bit_of (take n words) q ≡ bit_of (take n' others) q) → IsTrue x ↔ (s ≡ t)
same_shown p n p' n' words others s t x mine theirs len holds = (
  λ h. same_set s t len (λ q lt. sym (shown_front p n words s mine q) ∙ (holds.0 h q ∙ shown_front p' n' others t theirs q)),
  λ e. holds.1 (λ q. shown_front p n words s mine q ∙ (ap (λ u. is_in u q) e ∙ sym (shown_front p' n' others t theirs q))),
)

pub same_value : (s t : PartitionSet) (x : Bool) → IsTrue x ↔ (s ≡ t) → x ≡ is_same s t
same_value s t true holds = let e : s ≡ t = holds.0 refl in sym (ap (is_same s) (sym e) ∙ same_self s)
same_value s t false holds = false_is (is_same s t) (λ h. holds.1 (same_says s t h))
  where
    false_is : (x : Bool) → (x ≡ true → false ≡ true) → false ≡ x
    false_is true h = h refl
    false_is false h = refl

-- ---- the lowest element from a number on
pub clear_shown : (p n : ℕ) (words : List ℕ) (s : PartitionSet) (from : ℕ) → IsShown p n words s → AreClearFrom (take n words) from → (q : ℕ) → from ≤ q → is_in s q ≡ false
clear_shown p n words s from shown clear q le = sym (shown_front p n words s shown q) ∙ clear q le

pub lowest_shown : (p n : ℕ) (words : List ℕ) (s : PartitionSet) (from q : ℕ) → IsShown p n words s → IsLowestFrom (take n words) from q → IsLowestElement s from q
lowest_shown p n words s from q shown low = record {
  member = sym (shown_front p n words s shown q) ∙ low.set;
  not_below = low.not_below;
  none = λ k le lt. sym (shown_front p n words s shown k) ∙ low.clear k le lt;
}

pub found_shown : (p n : ℕ) (words : List ℕ) (s : PartitionSet) (from : ℕ) (found : Option ℕ) → IsShown p n words s → MatchOption found (AreClearFrom (take n words) from) (IsLowestFrom (take n words) from)
    → MatchOption found ((q : ℕ) → from ≤ q → is_in s q ≡ false) (IsLowestElement s from)
found_shown p n words s from None shown holds = clear_shown p n words s from shown holds
found_shown p n words s from (Some q) shown holds = lowest_shown p n words s from q shown holds

pub found_below : (p n : ℕ) (words : List ℕ) (s : PartitionSet) (from : ℕ) (found : Option ℕ) → IsShown p n words s → MatchOption found (AreClearFrom (take n words) from) (IsLowestFrom (take n words) from) → IfSome found (λ q. q < 4096)
found_below p n words s from None shown holds = tt
found_below p n words s from (Some q) shown holds = below (in_below s q (sym (shown_front p n words s shown q) ∙ holds.set))
  where
    below : q < partitions_of s → q < 4096
    below lt =
        let is = below_is p words s shown.view in
        let few = shown.few in
        omega arith
