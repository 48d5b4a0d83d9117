-- A plane's flags, seen as a set.
use Rattle.std.proofs.Common.{ℕ, ◌≡◌, ◌≢◌, ◌+◌, ◌-◌, ◌<◌, ◌≤◌, ◌==◌, Bool, true, false, ◌||◌, ◌&&◌, not, List, length, take, get_or, replicate, refl, ap, sym, subst, ◌∙◌, arith, inl, inr}
use Rattle.std.specs.Prelude.{MatchBool, slice_set, nat_lt}
use Rattle.std.proofs.lemmas.Bool.{cases_lt, cases_eq}
use Rattle.std.proofs.lemmas.Bool.Decides.{nat_tests}
use Rattle.std.proofs.lemmas.List.{get_or-take, length-take-le, get_or-set_other, get_or-set_same, get_or-replicate, length-set, length-replicate}
use Rattle.bit_planes.specs.PartitionSet.{PartitionSet, partitions_of, is_in, set_where, rank, union, minus, lowest, full_set, empty_set, with_one, without_one}
use Rattle.bit_planes.proofs.Sets.{partitions_where, in_where, rank_is, rank_in, rank_out, in_without, partitions_without, same_set}

abbrev pub seen : ℕ → List Bool → PartitionSet
seen p flags = record { flags = take p flags }

pub seen_below : (p : ℕ) (flags : List Bool) → p ≤ length flags → partitions_of (seen p flags) ≡ p
unfolding partitions_of
seen_below p flags le = length-take-le p flags le

pub seen_flag : (p : ℕ) (flags : List Bool) (q : ℕ) → q < p → is_in (seen p flags) q ≡ get_or flags q false
unfolding is_in
seen_flag p flags q lt = get_or-take p flags q false lt

pub below_is : (p : ℕ) (flags : List Bool) (s : PartitionSet) → p ≤ 4096 → length flags ≡ 4096 → seen p flags ≡ s → partitions_of s ≡ p
below_is p flags s few len e = sym (ap partitions_of e) ∙ seen_below p flags (omega arith)

pub flag_is : (p : ℕ) (flags : List Bool) (s : PartitionSet) (q : ℕ) → q < p → seen p flags ≡ s → get_or flags q false ≡ is_in s q
flag_is p flags s q lt e = sym (seen_flag p flags q lt) ∙ ap (λ t. is_in t q) e

pub seen_where : (p : ℕ) (flags : List Bool) (f : ℕ → Bool) → p ≤ 4096 → length flags ≡ 4096 → ((q : ℕ) → q < p → get_or flags q false ≡ f q) → seen p flags ≡ set_where p f
seen_where p flags f few len marked =
    let e = seen_below p flags (omega arith) in
    same_set (seen p flags) (set_where p f) (e ∙ sym (partitions_where p f)) (λ q lt. seen_flag p flags q (omega arith) ∙ marked q (omega arith) ∙ sym (in_where p f q (omega arith)))

-- ---- flags that a loop marks as a test says, as far as n, and that are from there on as they were
pub record AreMarked (old : List Bool) (f : ℕ → Bool) (n : ℕ) (flags : List Bool) : Type 0 where
  pub len : length flags ≡ 4096
  pub done : (q : ℕ) → q < n → get_or flags q false ≡ f q
  pub left : (q : ℕ) → n ≤ q → get_or flags q false ≡ get_or old q false

pub marked_none : (old : List Bool) (f : ℕ → Bool) → length old ≡ 4096 → AreMarked old f 0 old
marked_none old f len = record { len = len; done = λ q lt. absurd (omega arith); left = λ q le. refl }

pub marked_one : (old : List Bool) (f : ℕ → Bool) (n : ℕ) (flags : List Bool) (x : Bool) → n < 4096 → x ≡ f n → AreMarked old f n flags → AreMarked old f (n + 1) (slice_set flags n x)
marked_one old f n flags x lt e m =
    let len = m.len in
    record {
      len = length-set flags n x ∙ len;
      done = λ q below. elim (cases_lt q n) [
        | inl before ↦ let other : q ≢ n = omega arith in get_or-set_other flags n q x false other ∙ m.done q before
        | inr here ↦ let same : q ≡ n = omega arith in rw same (get_or-set_same flags n x false (omega arith) ∙ e)
      ];
      left = λ q le. let other : q ≢ n = omega arith in get_or-set_other flags n q x false other ∙ m.left q (omega arith);
    }

pub marked_same : (old : List Bool) (f : ℕ → Bool) (n : ℕ) (flags : List Bool) → get_or flags n false ≡ f n → AreMarked old f n flags → AreMarked old f (n + 1) flags
marked_same old f n flags e m = record {
  len = m.len;
  done = λ q below. elim (cases_lt q n) [
    | inl before ↦ m.done q before
    | inr here ↦ let same : q ≡ n = omega arith in rw same e
  ];
  left = λ q le. m.left q (omega arith);
}

pub marked_all : (old : List Bool) (f : ℕ → Bool) (p n : ℕ) (flags : List Bool) → p ≤ 4096 → p ≤ n → AreMarked old f n flags → seen p flags ≡ set_where p f
marked_all old f p n flags few le m = seen_where p flags f few m.len (λ q lt. m.done q (omega arith))

pub none_at : (q : ℕ) → q < 4096 → get_or (replicate 4096 false) q false ≡ false
none_at q lt = get_or-replicate 4096 q false false lt

-- ---- what a loop has marked below P, as the set that it makes
pub seen_union : (p n : ℕ) (old flags : List Bool) (s t : PartitionSet) → p ≤ 4096 → partitions_of s ≡ p → p ≤ n → AreMarked old (λ q. is_in s q || is_in t q) n flags → seen p flags ≡ union s t
unfolding union
seen_union p n old flags s t few below le m = marked_all old _ p n flags few le m ∙ ap (λ k. set_where k (λ q. is_in s q || is_in t q)) (sym below)

pub seen_minus : (p n : ℕ) (old flags : List Bool) (s t : PartitionSet) → p ≤ 4096 → partitions_of s ≡ p → p ≤ n → AreMarked old (λ q. is_in s q && not (is_in t q)) n flags → seen p flags ≡ minus s t
unfolding minus
seen_minus p n old flags s t few below le m = marked_all old _ p n flags few le m ∙ ap (λ k. set_where k (λ q. is_in s q && not (is_in t q))) (sym below)

pub seen_lowest : (p n : ℕ) (old flags : List Bool) (k : ℕ) (s : PartitionSet) → p ≤ 4096 → partitions_of s ≡ p → p ≤ n → AreMarked old (λ q. is_in s q && nat_lt (rank s q) k) n flags → seen p flags ≡ lowest k s
unfolding lowest
seen_lowest p n old flags k s few below le m = marked_all old _ p n flags few le m ∙ ap (λ j. set_where j (λ q. is_in s q && nat_lt (rank s q) k)) (sym below)

pub seen_full : (p n : ℕ) (old flags : List Bool) → p ≤ 4096 → p ≤ n → AreMarked old (λ q. true) n flags → seen p flags ≡ full_set p
unfolding full_set
seen_full p n old flags few le m = marked_all old _ p n flags few le m

pub seen_empty : (p : ℕ) → p ≤ 4096 → seen p (replicate 4096 false) ≡ empty_set p
unfolding empty_set
seen_empty p few = seen_where p (replicate 4096 false) _ few (length-replicate 4096 false) (λ q lt. none_at q (omega arith))

here : (q : ℕ) → (q == q) ≡ true
here q = grind (arith, nat_tests)

elsewhere : (q n : ℕ) → q ≢ n → (q == n) ≡ false
elsewhere q n ne = grind (arith, nat_tests)

put_true : (x y : Bool) → y ≡ true → true ≡ (x || y)
put_true true y e = refl
put_true false y e = sym e

put_false : (x y : Bool) → y ≡ true → false ≡ (x && not y)
put_false true y e = rw e refl
put_false false y e = refl

or_other : (x y : Bool) → y ≡ false → x ≡ (x || y)
or_other true y e = refl
or_other false y e = sym e

and_other : (x y : Bool) → y ≡ false → x ≡ (x && not y)
and_other true y e = rw e refl
and_other false y e = refl

pub seen_with : (p : ℕ) (flags : List Bool) (s : PartitionSet) (n : ℕ) → p ≤ 4096 → length flags ≡ 4096 → seen p flags ≡ s → n < p → seen p (slice_set flags n true) ≡ with_one s n
unfolding with_one
seen_with p flags s n few len e lt =
    let below = below_is p flags s few len e in
    let f : ℕ → Bool = λ q. is_in s q || (q == n) in
    seen_where p (slice_set flags n true) f few (length-set flags n true ∙ len) (λ q within. elim (cases_eq q n) [
      | inl same ↦ rw same (get_or-set_same flags n true false (omega arith) ∙ put_true (is_in s n) (n == n) (here n))
      | inr other ↦ get_or-set_other flags n q true false other ∙ flag_is p flags s q within e ∙ or_other (is_in s q) (q == n) (elsewhere q n other)
    ]) ∙ ap (λ k. set_where k f) (sym below)

pub seen_without : (p : ℕ) (flags : List Bool) (s : PartitionSet) (n : ℕ) → p ≤ 4096 → length flags ≡ 4096 → seen p flags ≡ s → n < p → seen p (slice_set flags n false) ≡ without_one s n
unfolding without_one
seen_without p flags s n few len e lt =
    let below = below_is p flags s few len e in
    let f : ℕ → Bool = λ q. is_in s q && not (q == n) in
    seen_where p (slice_set flags n false) f few (length-set flags n false ∙ len) (λ q within. elim (cases_eq q n) [
      | inl same ↦ rw same (get_or-set_same flags n false false (omega arith) ∙ put_false (is_in s n) (n == n) (here n))
      | inr other ↦ get_or-set_other flags n q false false other ∙ flag_is p flags s q within e ∙ and_other (is_in s q) (q == n) (elsewhere q n other)
    ]) ∙ ap (λ k. set_where k f) (sym below)

pub without_past : (s : PartitionSet) (n : ℕ) → partitions_of s ≤ n → s ≡ without_one s n
without_past s n le = same_set s (without_one s n) (sym (partitions_without s n)) (λ q lt. let other : q ≢ n = omega arith in and_other (is_in s q) (q == n) (elsewhere q n other) ∙ sym (in_without s n q))

-- ---- the lowest elements, kept as far as n with so many left
pub record AreTrimmed (old : List Bool) (s : PartitionSet) (k n : ℕ) (flags : List Bool) (left : ℕ) : Type 0 where
  pub marked : AreMarked old (λ q. is_in s q && nat_lt (rank s q) k) n flags
  pub counted : left ≡ k - rank s n

pub trimmed_none : (old : List Bool) (s : PartitionSet) (k : ℕ) → length old ≡ 4096 → AreTrimmed old s k 0 old k
trimmed_none old s k len = record { marked = marked_none old _ len; counted = omega (arith, rank_is s 0) }

retains_in : (x : Bool) (r k left : ℕ) → x ≡ true → left ≡ k - r → nat_lt 0 left ≡ (x && nat_lt r k)
retains_in true r k left e l = grind (arith, nat_tests)
retains_in false r k left e l = absurd (grind (arith, e))

pub trimmed_in : (old : List Bool) (s : PartitionSet) (k n : ℕ) (flags : List Bool) (left : ℕ) → n < 4096 → is_in s n ≡ true → AreTrimmed old s k n flags left → AreTrimmed old s k (n + 1) (slice_set flags n (nat_lt 0 left)) (left - 1)
trimmed_in old s k n flags left lt e t = record {
  marked = marked_one old _ n flags (nat_lt 0 left) lt (retains_in (is_in s n) (rank s n) k left e t.counted) t.marked;
  counted = omega (arith, t.counted, rank_in s n e);
}

leaves_out : (x b : Bool) → x ≡ false → false ≡ (x && b)
leaves_out true b e = absurd (grind (arith, e))
leaves_out false b e = refl

pub trimmed_out : (old : List Bool) (s : PartitionSet) (k n : ℕ) (flags : List Bool) (left : ℕ) → get_or flags n false ≡ false → is_in s n ≡ false → AreTrimmed old s k n flags left → AreTrimmed old s k (n + 1) flags left
trimmed_out old s k n flags left at e t = record {
  marked = marked_same old _ n flags (at ∙ leaves_out (is_in s n) (nat_lt (rank s n) k) e) t.marked;
  counted = omega (arith, t.counted, rank_out s n e);
}

-- ---- a test of two memberships, as R tells it: a flag at each number, and an answer for all
pub tested_at : (R : Bool → Bool → Bool → Type 0) (a b x a' b' x' : Bool) → a ≡ a' → b ≡ b' → x ≡ x' → R a b x → R a' b' x'
tested_at R a b x a' b' x' e f g h = subst (λ v. R v b' x') e (subst (λ v. R a v x') f (subst (R a b) g h))

pub tested_more : (R : Bool → Bool → Bool → Type 0) (s t : PartitionSet) (n : ℕ) (flags : List Bool) (a b x : Bool) → n < length flags → a ≡ is_in s n → b ≡ is_in t n → R a b x
    → ((q : ℕ) → q < n → R (is_in s q) (is_in t q) (get_or flags q false)) → (q : ℕ) → q < n + 1 → R (is_in s q) (is_in t q) (get_or (slice_set flags n x) q false)
tested_more R s t n flags a b x lt mine theirs holds before q below = elim (cases_lt q n) [
  | inl earlier ↦ let other : q ≢ n = omega arith in subst (R (is_in s q) (is_in t q)) (sym (get_or-set_other flags n q x false other)) (before q earlier)
  | inr late ↦
      let same : q ≡ n = omega arith in
      rw same (tested_at R a b x (is_in s n) (is_in t n) (get_or (slice_set flags n x) n false) mine theirs (sym (get_or-set_same flags n x false lt)) holds)
]

pub failed_more : (R : Bool → Bool → Bool → Type 0) (s t : PartitionSet) (n : ℕ) (a b x : Bool) → a ≡ is_in s n → b ≡ is_in t n → x ≡ false → R a b x
    → ((q : ℕ) → q < n → R (is_in s q) (is_in t q) false) → (q : ℕ) → q < n + 1 → R (is_in s q) (is_in t q) false
failed_more R s t n a b x mine theirs fails holds before q below = elim (cases_lt q n) [
  | inl earlier ↦ before q earlier
  | inr late ↦ let same : q ≡ n = omega arith in rw same (tested_at R a b x (is_in s n) (is_in t n) false mine theirs fails holds)
]

abbrev pub HasPassed : (Bool → Bool → Bool → Type 0) → PartitionSet → PartitionSet → ℕ → Bool → Type 0
HasPassed R s t n passed = MatchBool passed ((q : ℕ) × (q < n) × R (is_in s q) (is_in t q) true) ((q : ℕ) → q < n → R (is_in s q) (is_in t q) false)

pub passed_more : (R : Bool → Bool → Bool → Type 0) (s t : PartitionSet) (n : ℕ) (a b x passed : Bool) → a ≡ is_in s n → b ≡ is_in t n → R a b x → HasPassed R s t n passed → HasPassed R s t (n + 1) (passed || x)
passed_more R s t n a b x true mine theirs holds h = (h.0, omega (arith, h.1), h.2)
passed_more R s t n a b true false mine theirs holds h = (n, omega arith, tested_at R a b true (is_in s n) (is_in t n) true mine theirs refl holds)
passed_more R s t n a b false false mine theirs holds h = failed_more R s t n a b false mine theirs refl holds h

pub passed_none : (R : Bool → Bool → Bool → Type 0) (s t : PartitionSet) → HasPassed R s t 0 false
passed_none R s t q lt = absurd (omega (arith, lt))

pub passed_whole : (R : Bool → Bool → Bool → Type 0) (s t : PartitionSet) (n : ℕ) (passed : Bool) → n ≡ partitions_of s → HasPassed R s t n passed → HasPassed R s t (partitions_of s) passed
passed_whole R s t n passed e h = subst (λ k. HasPassed R s t k passed) e h

pub tested_seen : (R : Bool → Bool → Bool → Type 0) (a b : Bool) (p : ℕ) (flags : List Bool) (q : ℕ) → q < p → R a b (get_or flags q false) → R a b (is_in (seen p flags) q)
tested_seen R a b p flags q lt h = subst (R a b) (sym (seen_flag p flags q lt)) h

pub more_left : (old flags : List Bool) (n : ℕ) (x : Bool) → ((q : ℕ) → n ≤ q → get_or flags q false ≡ get_or old q false)
    → (q : ℕ) → n + 1 ≤ q → get_or (slice_set flags n x) q false ≡ get_or old q false
more_left old flags n x left q le = let other : q ≢ n = omega arith in get_or-set_other flags n q x false other ∙ left q (omega arith)
