-- The laws of sets of partitions, by membership.
use Rattle.std.proofs.Common.{ℕ, zero, suc, ◌≡◌, ◌+◌, ◌<◌, ◌≤◌, ◌==◌, Bool, true, false, ◌||◌, ◌&&◌, not, List, [], ◌∷◌, length, min, refl, ap, sym, ◌∙◌, arith, inl, inr}
use Rattle.std.specs.Prelude.{nat_lt, slice_index_or, IsTrue, ◌↔◌, MatchBool}
use Rattle.std.proofs.lemmas.Bool.{cases_lt, lt-ltb, le-ltb}
use Rattle.std.proofs.lemmas.Bool.Decides.{nat_tests}
use Rattle.bit_planes.specs.Private.Lists.{flags_where}
use Rattle.bit_planes.specs.PartitionSet.{PartitionSet, partitions_of, is_in, set_where, one, how_many, any_below, rank, size, empty_set, full_set, with_one, without_one, union, minus, lowest, meets, is_within, is_same}

-- ---- what stands behind a set
length-flags_where : (p : ℕ) (f : ℕ → Bool) → length (flags_where p f) ≡ p
length-flags_where zero f = refl
length-flags_where (suc p) f = ap (λ n. suc n) (length-flags_where p (λ q. f (suc q)))

flags_where-at : (p : ℕ) (f : ℕ → Bool) (q : ℕ) → q < p → slice_index_or (flags_where p f) q false ≡ f q
flags_where-at zero f q lt = absurd (omega arith)
flags_where-at (suc p) f zero lt = refl
flags_where-at (suc p) f (suc q) lt = flags_where-at p (λ n. f (suc n)) q (omega arith)

flags-past : (xs : List Bool) (q : ℕ) → length xs ≤ q → slice_index_or xs q false ≡ false
flags-past [] q le = refl
flags-past (x ∷ xs) zero le = absurd (omega arith)
flags-past (x ∷ xs) (suc q) le = flags-past xs q (omega arith)

same_flags : (xs ys : List Bool) → length xs ≡ length ys → ((q : ℕ) → q < length xs → slice_index_or xs q false ≡ slice_index_or ys q false) → xs ≡ ys
same_flags [] [] len same = refl
same_flags [] (y ∷ ys) len same = absurd (omega arith)
same_flags (x ∷ xs) [] len same = absurd (omega arith)
same_flags (x ∷ xs) (y ∷ ys) len same =
    rw (same 0 (omega arith)) (ap (λ zs. y ∷ zs) (same_flags xs ys (omega arith) (λ q lt. same (suc q) (omega arith))))

pub partitions_where : (p : ℕ) (f : ℕ → Bool) → partitions_of (set_where p f) ≡ p
unfolding partitions_of set_where
partitions_where p f = length-flags_where p f

pub in_where : (p : ℕ) (f : ℕ → Bool) (q : ℕ) → q < p → is_in (set_where p f) q ≡ f q
unfolding is_in set_where
in_where p f q lt = flags_where-at p f q lt

pub past : (s : PartitionSet) (q : ℕ) → partitions_of s ≤ q → is_in s q ≡ false
unfolding partitions_of is_in
past s q le = flags-past s.flags q le

pub same_set : (s t : PartitionSet) → partitions_of s ≡ partitions_of t → ((q : ℕ) → q < partitions_of s → is_in s q ≡ is_in t q) → s ≡ t
unfolding partitions_of is_in
same_set s t len same = ap (λ xs. record { flags = xs }) (same_flags s.flags t.flags len same)

pub past_where : (p : ℕ) (f : ℕ → Bool) (q : ℕ) → p ≤ q → is_in (set_where p f) q ≡ false
past_where p f q le = let e = partitions_where p f in past (set_where p f) q (omega arith)

pub in_below : (s : PartitionSet) (q : ℕ) → is_in s q ≡ true → q < partitions_of s
in_below s q h = elim (cases_lt q (partitions_of s)) [ inl lt ↦ lt | inr le ↦ let e = past s q le in absurd (grind (arith, h, e)) ]

-- ---- membership
in_where_cut : (p : ℕ) (f : ℕ → Bool) (q : ℕ) → (p ≤ q → f q ≡ false) → is_in (set_where p f) q ≡ f q
in_where_cut p f q cut = elim (cases_lt q p) [ inl lt ↦ in_where p f q lt | inr le ↦ past_where p f q le ∙ sym (cut le) ]

pub partitions_union : (s t : PartitionSet) → partitions_of (union s t) ≡ partitions_of s
unfolding union
partitions_union s t = partitions_where (partitions_of s) _

pub partitions_minus : (s t : PartitionSet) → partitions_of (minus s t) ≡ partitions_of s
unfolding minus
partitions_minus s t = partitions_where (partitions_of s) _

pub partitions_lowest : (n : ℕ) (s : PartitionSet) → partitions_of (lowest n s) ≡ partitions_of s
unfolding lowest
partitions_lowest n s = partitions_where (partitions_of s) _

pub partitions_with : (s : PartitionSet) (n : ℕ) → partitions_of (with_one s n) ≡ partitions_of s
unfolding with_one
partitions_with s n = partitions_where (partitions_of s) _

pub partitions_without : (s : PartitionSet) (n : ℕ) → partitions_of (without_one s n) ≡ partitions_of s
unfolding without_one
partitions_without s n = partitions_where (partitions_of s) _

pub partitions_empty : (p : ℕ) → partitions_of (empty_set p) ≡ p
unfolding empty_set
partitions_empty p = partitions_where p _

pub partitions_full : (p : ℕ) → partitions_of (full_set p) ≡ p
unfolding full_set
partitions_full p = partitions_where p _

neither : (x y : Bool) → x ≡ false → y ≡ false → (x || y) ≡ false
neither true y h k = h
neither false y h k = k

not_first : (x y : Bool) → x ≡ false → (x && y) ≡ false
not_first true y h = absurd (grind (arith, h))
not_first false y h = refl

pub in_union : (s t : PartitionSet) (q : ℕ) → partitions_of s ≡ partitions_of t → is_in (union s t) q ≡ (is_in s q || is_in t q)
unfolding union
in_union s t q len = in_where_cut (partitions_of s) _ q (λ le. neither (is_in s q) (is_in t q) (past s q le) (past t q (omega arith)))

pub in_minus : (s t : PartitionSet) (q : ℕ) → is_in (minus s t) q ≡ (is_in s q && not (is_in t q))
unfolding minus
in_minus s t q = in_where_cut (partitions_of s) _ q (λ le. not_first (is_in s q) (not (is_in t q)) (past s q le))

pub in_lowest : (n : ℕ) (s : PartitionSet) (q : ℕ) → is_in (lowest n s) q ≡ (is_in s q && nat_lt (rank s q) n)
unfolding lowest
in_lowest n s q = in_where_cut (partitions_of s) _ q (λ le. not_first (is_in s q) (nat_lt (rank s q) n) (past s q le))

other_id : (q n : ℕ) → n < q → (q == n) ≡ false
other_id q n lt = grind (arith, nat_tests)

pub in_with : (s : PartitionSet) (n q : ℕ) → n < partitions_of s → is_in (with_one s n) q ≡ (is_in s q || (q == n))
unfolding with_one
in_with s n q lt = in_where_cut (partitions_of s) _ q (λ le. neither (is_in s q) (q == n) (past s q le) (other_id q n (omega arith)))

pub in_without : (s : PartitionSet) (n q : ℕ) → is_in (without_one s n) q ≡ (is_in s q && not (q == n))
unfolding without_one
in_without s n q = in_where_cut (partitions_of s) _ q (λ le. not_first (is_in s q) (not (q == n)) (past s q le))

pub in_empty : (p q : ℕ) → is_in (empty_set p) q ≡ false
unfolding empty_set
in_empty p q = in_where_cut p _ q (λ le. refl)

pub in_full : (p q : ℕ) → q < p → is_in (full_set p) q ≡ true
unfolding full_set
in_full p q lt = in_where p _ q lt

-- ---- counting
pub one_le : (x : Bool) → one x ≤ 1
one_le true = omega arith
one_le false = omega arith

pub how_many-same : (n : ℕ) (f g : ℕ → Bool) → ((q : ℕ) → q < n → f q ≡ g q) → how_many n f ≡ how_many n g
how_many-same zero f g same = refl
how_many-same (suc n) f g same =
    let at = same n (omega arith) in
    let below = how_many-same n f g (λ q lt. same q (omega arith)) in
    rw (at, below) refl

pub how_many-le : (n : ℕ) (f : ℕ → Bool) → how_many n f ≤ n
how_many-le zero f = omega arith
how_many-le (suc n) f = omega (arith, how_many-le n f, one_le (f n))

pub how_many-add : (n : ℕ) (f g h : ℕ → Bool) → ((q : ℕ) → q < n → one (h q) ≡ one (f q) + one (g q)) → how_many n h ≡ how_many n f + how_many n g
how_many-add zero f g h add = refl
how_many-add (suc n) f g h add = omega (arith, add n (omega arith), how_many-add n f g h (λ q lt. add q (omega arith)))

pub how_many-none : (n : ℕ) (f : ℕ → Bool) → ((q : ℕ) → q < n → f q ≡ false) → how_many n f ≡ 0
how_many-none zero f none = refl
how_many-none (suc n) f none = let at = none n (omega arith) in rw at (omega (arith, how_many-none n f (λ q lt. none q (omega arith))))

pub how_many-all : (n : ℕ) (f : ℕ → Bool) → ((q : ℕ) → q < n → f q ≡ true) → how_many n f ≡ n
how_many-all zero f all = refl
how_many-all (suc n) f all = let at = all n (omega arith) in rw at (omega (arith, how_many-all n f (λ q lt. all q (omega arith))))

pub how_many-rises : (m n : ℕ) (f : ℕ → Bool) → m ≤ n → how_many m f ≤ how_many n f
how_many-rises m zero f le = let e : m ≡ 0 = omega arith in rw e (omega arith)
how_many-rises m (suc n) f le = elim (cases_lt m (suc n)) [
  | inl lt ↦ omega (arith, how_many-rises m n f (omega arith))
  | inr ge ↦ let e : m ≡ suc n = omega arith in rw e (omega arith)
]

pub how_many-stops : (p n : ℕ) (f : ℕ → Bool) → ((q : ℕ) → p ≤ q → f q ≡ false) → p ≤ n → how_many n f ≡ how_many p f
how_many-stops p zero f none le = let e : p ≡ 0 = omega arith in rw e refl
how_many-stops p (suc n) f none le = elim (cases_lt p (suc n)) [
  | inl lt ↦ let at = none n (omega arith) in rw at (omega (arith, how_many-stops p n f none (omega arith)))
  | inr ge ↦ let e : p ≡ suc n = omega arith in rw e refl
]

-- ---- rank and size
pub rank_is : (s : PartitionSet) (q : ℕ) → rank s q ≡ how_many q (is_in s)
unfolding rank
rank_is s q = refl

pub size_is : (s : PartitionSet) → size s ≡ how_many (partitions_of s) (is_in s)
unfolding size
size_is s = rank_is s (partitions_of s)

pub rank_next : (s : PartitionSet) (q : ℕ) → rank s (suc q) ≡ rank s q + one (is_in s q)
unfolding rank
rank_next s q = refl

pub rank_most : (s : PartitionSet) (q : ℕ) → rank s q ≤ size s
rank_most s q = elim (cases_lt q (partitions_of s)) [
  | inl lt ↦ omega (arith, rank_is s q, size_is s, how_many-rises q (partitions_of s) (is_in s) (omega arith))
  | inr le ↦ omega (arith, rank_is s q, size_is s, how_many-stops (partitions_of s) q (is_in s) (past s) le)
]

pub rank_past : (s : PartitionSet) (q : ℕ) → partitions_of s ≤ q → rank s q ≡ size s
rank_past s q le = omega (arith, rank_is s q, size_is s, how_many-stops (partitions_of s) q (is_in s) (past s) le)

one_of : (x : Bool) → x ≡ true → one x ≡ 1
one_of true h = refl
one_of false h = absurd (grind (arith, h))

pub rank_below : (s : PartitionSet) (q : ℕ) → is_in s q ≡ true → rank s q < size s
rank_below s q h = omega (arith, rank_most s (suc q), rank_next s q, one_of (is_in s q) h)

pub size_most : (s : PartitionSet) → size s ≤ partitions_of s
size_most s = omega (arith, size_is s, how_many-le (partitions_of s) (is_in s))

pub size_full : (p : ℕ) → size (full_set p) ≡ p
size_full p =
    let e = partitions_full p in
    size_is (full_set p) ∙ how_many-all (partitions_of (full_set p)) (is_in (full_set p)) (λ q lt. in_full p q (omega arith)) ∙ e

none_first : (b : Bool) (r : ℕ) → (b && nat_lt r 0) ≡ false
none_first true r = grind (arith, nat_tests)
none_first false r = refl

pub lowest_none : (n : ℕ) (s : PartitionSet) → n ≡ 0 → lowest n s ≡ empty_set (partitions_of s)
lowest_none n s e =
    same_set (lowest n s) (empty_set (partitions_of s)) (partitions_lowest n s ∙ sym (partitions_empty (partitions_of s)))
    (λ q lt. in_lowest n s q ∙ ap (λ k. is_in s q && nat_lt (rank s q) k) e ∙ none_first (is_in s q) (rank s q) ∙ sym (in_empty (partitions_of s) q))

lowest_step : (x : Bool) (r n : ℕ) → min n r + one (x && nat_lt r n) ≡ min n (r + one x)
lowest_step true r n = grind (arith, nat_tests)
lowest_step false r n = let z : r + 0 ≡ r = omega arith in rw z (omega arith)

-- how many are left of those of which f holds, where g holds of the n lowest of them
pub how_many-lowest : (n t : ℕ) (f g : ℕ → Bool) → ((q : ℕ) → q < t → g q ≡ (f q && nat_lt (how_many q f) n)) → how_many t g ≡ min n (how_many t f)
how_many-lowest n zero f g low = omega arith
how_many-lowest n (suc t) f g low =
    let before = how_many-lowest n t f g (λ q lt. low q (omega arith)) in
    rw (before, low t (omega arith)) (lowest_step (f t) (how_many t f) n)

pub rank_lowest : (n : ℕ) (s : PartitionSet) (q : ℕ) → rank (lowest n s) q ≡ min n (rank s q)
rank_lowest n s zero = omega (arith, rank_is s 0, rank_is (lowest n s) 0)
rank_lowest n s (suc q) =
    rw (rank_next s q, rank_next (lowest n s) q, rank_lowest n s q, in_lowest n s q) (lowest_step (is_in s q) (rank s q) n)

pub size_lowest : (n : ℕ) (s : PartitionSet) → size (lowest n s) ≡ min n (size s)
size_lowest n s =
    let e = partitions_lowest n s in
    sym (rank_past (lowest n s) (partitions_of s) (omega arith)) ∙ rank_lowest n s (partitions_of s) ∙ ap (λ k. min n k) (rank_past s (partitions_of s) (omega arith))

pub one_or : (x y : Bool) → one x + one y ≤ 1 → one (x || y) ≡ one x + one y
one_or true true h = absurd (omega arith)
one_or true false h = refl
one_or false true h = refl
one_or false false h = refl

pub one_minus : (x y : Bool) → one y ≤ one x → one (x && not y) + one y ≡ one x
one_minus true true h = refl
one_minus true false h = refl
one_minus false true h = absurd (omega arith)
one_minus false false h = refl

size_over : (s : PartitionSet) (p : ℕ) → partitions_of s ≡ p → size s ≡ how_many p (is_in s)
size_over s p e = size_is s ∙ ap (λ n. how_many n (is_in s)) e

pub size_union : (s t : PartitionSet) → partitions_of s ≡ partitions_of t → ((q : ℕ) → one (is_in s q) + one (is_in t q) ≤ 1) → size (union s t) ≡ size s + size t
size_union s t len disjoint =
    let p : ℕ = partitions_of s in
    let add = how_many-add p (is_in s) (is_in t) (is_in (union s t)) (λ q lt. rw (in_union s t q len) (one_or (is_in s q) (is_in t q) (disjoint q))) in
    omega (arith, add, size_over (union s t) p (partitions_union s t), size_over s p refl, size_over t p (sym len))

pub one_in_minus : (s t : PartitionSet) (q : ℕ) → one (is_in t q) ≤ one (is_in s q) → one (is_in (minus s t) q) + one (is_in t q) ≡ one (is_in s q)
one_in_minus s t q within = rw (in_minus s t q) (one_minus (is_in s q) (is_in t q) within)

pub size_minus : (s t : PartitionSet) → partitions_of s ≡ partitions_of t → ((q : ℕ) → one (is_in t q) ≤ one (is_in s q)) → size (minus s t) + size t ≡ size s
size_minus s t len within =
    let p : ℕ = partitions_of s in
    let add = how_many-add p (is_in (minus s t)) (is_in t) (is_in s) (λ q lt. sym (one_in_minus s t q (within q))) in
    omega (arith, add, size_over (minus s t) p (partitions_minus s t), size_over s p refl, size_over t p (sym len))

pub none_of_no_size : (s : PartitionSet) (q : ℕ) → size s ≡ 0 → is_in s q ≡ false
none_of_no_size s q none = elim (is_in s q) as (λ x. (x ≡ true → rank s q < size s) → x ≡ false) [
  | true ↦ λ below. absurd (omega (arith, below refl))
  | false ↦ λ below. refl
] (rank_below s q)

one_and_below : (x y : Bool) → one (x && y) ≤ one x
one_and_below true y = one_le y
one_and_below false y = omega arith

pub lowest_within : (n : ℕ) (s : PartitionSet) (q : ℕ) → one (is_in (lowest n s) q) ≤ one (is_in s q)
lowest_within n s q = rw (in_lowest n s q) (one_and_below (is_in s q) (nat_lt (rank s q) n))

pub lowest_splits : (n : ℕ) (s : PartitionSet) (q : ℕ) → one (is_in (lowest n s) q) + one (is_in (minus s (lowest n s)) q) ≡ one (is_in s q)
lowest_splits n s q = omega (arith, one_in_minus s (lowest n s) q (lowest_within n s q))

pub all_low : (x : Bool) (r n : ℕ) → (x ≡ true → r < n) → x ≡ (x && nat_lt r n)
all_low true r n low = sym (lt-ltb r n (low refl))
all_low false r n low = refl

pub lowest_all : (n : ℕ) (s : PartitionSet) → size s ≤ n → s ≡ lowest n s
lowest_all n s le = same_set s (lowest n s) (sym (partitions_lowest n s)) (λ q lt. all_low (is_in s q) (rank s q) n (λ h. omega (arith, le, rank_below s q h)) ∙ sym (in_lowest n s q))

-- ---- tests over two sets
neither_one : (x y : Bool) → (x || y) ≡ false → (x ≡ false) × (y ≡ false)
neither_one true y h = absurd (grind (arith, h))
neither_one false y h = (refl, h)

pub any_below-none : (n : ℕ) (f : ℕ → Bool) → any_below n f ≡ false → (q : ℕ) → q < n → f q ≡ false
any_below-none zero f none q lt = absurd (omega arith)
any_below-none (suc n) f none q lt =
    let parts = neither_one (any_below n f) (f n) none in
    elim (cases_lt q n) [
      | inl below ↦ any_below-none n f parts.0 q below
      | inr ge ↦ let e : q ≡ n = omega arith in rw e parts.1
    ]

pub any_below-of_none : (n : ℕ) (f : ℕ → Bool) → ((q : ℕ) → q < n → f q ≡ false) → any_below n f ≡ false
any_below-of_none zero f none = refl
any_below-of_none (suc n) f none = neither (any_below n f) (f n) (any_below-of_none n f (λ q lt. none q (omega arith))) (none n (omega arith))

pub not_false : (x : Bool) → not x ≡ true → x ≡ false
not_false true h = sym h
not_false false h = refl

second_too : (x y : Bool) → (x && not y) ≡ false → x ≡ true → y ≡ true
second_too true true h e = refl
second_too true false h e = sym h
second_too false y h e = absurd (grind (arith, e))

not_alone : (x y : Bool) → (x ≡ true → y ≡ true) → (x && not y) ≡ false
not_alone true y h = rw (h refl) refl
not_alone false y h = refl

pub within_says : (s t : PartitionSet) → is_within s t ≡ true → (q : ℕ) → is_in s q ≡ true → is_in t q ≡ true
unfolding is_within
within_says s t h q e =
    let none = any_below-none (partitions_of s) (λ k. is_in s k && not (is_in t k)) (not_false (any_below (partitions_of s) (λ k. is_in s k && not (is_in t k))) h) in
    second_too (is_in s q) (is_in t q) (none q (in_below s q e)) e

pub within_of : (s t : PartitionSet) → ((q : ℕ) → is_in s q ≡ true → is_in t q ≡ true) → is_within s t ≡ true
unfolding is_within
within_of s t h = ap not (any_below-of_none (partitions_of s) (λ k. is_in s k && not (is_in t k)) (λ q lt. not_alone (is_in s q) (is_in t q) (h q)))

pub meets_says : (s t : PartitionSet) → meets s t ≡ false → (q : ℕ) → (is_in s q && is_in t q) ≡ false
unfolding meets
meets_says s t h q = elim (cases_lt q (partitions_of s)) [
  | inl lt ↦ any_below-none (partitions_of s) (λ k. is_in s k && is_in t k) h q lt
  | inr le ↦ not_first (is_in s q) (is_in t q) (past s q le)
]

pub meets_of : (s t : PartitionSet) → ((q : ℕ) → (is_in s q && is_in t q) ≡ false) → meets s t ≡ false
unfolding meets
meets_of s t none = any_below-of_none (partitions_of s) (λ k. is_in s k && is_in t k) (λ q lt. none q)

pub both_true : (x y : Bool) → (x && y) ≡ true → (x ≡ true) × (y ≡ true)
both_true true y h = (refl, h)
both_true false y h = absurd (grind (arith, h))

same_truth : (x y : Bool) → (x ≡ true → y ≡ true) → (y ≡ true → x ≡ true) → x ≡ y
same_truth true y there back = sym (there refl)
same_truth false true there back = back refl
same_truth false false there back = refl

eq_says : (m n : ℕ) → (m == n) ≡ true → m ≡ n
eq_says m n h = grind (arith, nat_tests)

eq_self : (n : ℕ) → (n == n) ≡ true
eq_self n = grind (arith, nat_tests)

pub same_says : (s t : PartitionSet) → is_same s t ≡ true → s ≡ t
unfolding is_same
same_says s t h =
    let parts = both_true (partitions_of s == partitions_of t) (is_within s t && is_within t s) h in
    let withins = both_true (is_within s t) (is_within t s) parts.1 in
    same_set s t (eq_says (partitions_of s) (partitions_of t) parts.0) (λ q lt. same_truth (is_in s q) (is_in t q) (within_says s t withins.0 q) (within_says t s withins.1 q))

pub same_self : (s : PartitionSet) → is_same s s ≡ true
unfolding is_same
same_self s = rw (eq_self (partitions_of s), within_of s s (λ q h. h)) refl

pub in_full_all : (p q : ℕ) → is_in (full_set p) q ≡ nat_lt q p
in_full_all p q = elim (cases_lt q p) [
  | inl lt ↦ in_full p q lt ∙ sym (lt-ltb q p lt)
  | inr le ↦ let e = partitions_full p in past (full_set p) q (omega arith) ∙ sym (le-ltb q p le)
]

-- ---- what an answer implies
pub rank_more : (s : PartitionSet) (q : ℕ) → rank s (q + 1) ≡ rank s q + one (is_in s q)
rank_more s q = let next : q + 1 ≡ suc q = omega arith in rw next (rank_next s q)

true_is : (x y : Bool) → (x ≡ false → y ≡ true → ⊥) → y ≡ true → x ≡ true
true_is true y not_so h = refl
true_is false y not_so h = absurd (not_so refl h)

pub disjoint_elements : (s t : PartitionSet) (b : Bool) → b ≡ meets s t → (b ≡ false) ↔ ((q : ℕ) → (is_in s q && is_in t q) ≡ false)
disjoint_elements s t b e = (λ h. meets_says s t (sym e ∙ h), λ none. e ∙ meets_of s t none)

pub within_elements : (s t : PartitionSet) (b : Bool) → b ≡ is_within s t → IsTrue b ↔ ((q : ℕ) → is_in s q ≡ true → is_in t q ≡ true)
within_elements s t true e = (λ h. within_says s t (sym e), λ h. refl)
within_elements s t false e = (λ h. absurd (cc h), λ h. let so = within_of s t h in absurd (grind (arith, e, so)))

pub same_iff : (s t : PartitionSet) (b : Bool) → b ≡ is_same s t → IsTrue b ↔ (s ≡ t)
same_iff s t true e = (λ h. same_says s t (sym e), λ h. refl)
same_iff s t false e = (λ h. absurd (cc h), λ h. let so : is_same s t ≡ true = ap (is_same s) (sym h) ∙ same_self s in absurd (grind (arith, e, so)))

pub within_all : (s t : PartitionSet) (n : ℕ) → partitions_of s ≤ n → ((q : ℕ) → q < n → is_in s q ≡ true → is_in t q ≡ true) → true ≡ is_within s t
within_all s t n le all = sym (within_of s t (λ q e. let lt = in_below s q e in all q (omega arith) e))

pub same_all : (s t : PartitionSet) (n : ℕ) → partitions_of s ≡ partitions_of t → partitions_of s ≤ n → ((q : ℕ) → q < n → is_in s q ≡ is_in t q) → true ≡ is_same s t
same_all s t n len le all =
    let e = same_set s t len (λ q lt. all q (omega arith)) in
    sym (ap (is_same s) (sym e) ∙ same_self s)

pub rank_in : (s : PartitionSet) (q : ℕ) → is_in s q ≡ true → rank s (q + 1) ≡ rank s q + 1
rank_in s q h = omega (arith, rank_more s q, one_of (is_in s q) h)

pub rank_out : (s : PartitionSet) (q : ℕ) → is_in s q ≡ false → rank s (q + 1) ≡ rank s q
rank_out s q h = omega (arith, rank_more s q, ap one h)

-- ---- what a test of two memberships implies
pub union_of_elements : (s t u : PartitionSet) → partitions_of s ≡ partitions_of t → partitions_of u ≡ partitions_of s → ((q : ℕ) → q < partitions_of s → is_in u q ≡ (is_in s q || is_in t q)) → u ≡ union s t
union_of_elements s t u len same holds = same_set u (union s t) (same ∙ sym (partitions_union s t)) (λ q lt. holds q (omega (arith, lt, same)) ∙ sym (in_union s t q len))

pub minus_of_elements : (s t u : PartitionSet) → partitions_of u ≡ partitions_of s → ((q : ℕ) → q < partitions_of s → is_in u q ≡ (is_in s q && not (is_in t q))) → u ≡ minus s t
minus_of_elements s t u same holds = same_set u (minus s t) (same ∙ sym (partitions_minus s t)) (λ q lt. holds q (omega (arith, lt, same)) ∙ sym (in_minus s t q))

pub any_below-at : (n : ℕ) (f : ℕ → Bool) (q : ℕ) → q < n → f q ≡ true → any_below n f ≡ true
any_below-at n f q lt h = true_is (any_below n f) true (λ no e. let none = any_below-none n f no q lt in cc (none, h)) refl

pub any_below_of_match : (f : Bool → Bool → Bool) (s t : PartitionSet) (b : Bool) (T F : Type 0) → MatchBool b T F
    → (T → (q : ℕ) × (q < partitions_of s) × (true ≡ f (is_in s q) (is_in t q)))
    → (F → (q : ℕ) → q < partitions_of s → false ≡ f (is_in s q) (is_in t q))
    → b ≡ any_below (partitions_of s) (λ q. f (is_in s q) (is_in t q))
any_below_of_match f s t true T F holds at_one at_none = let at = at_one holds in sym (any_below-at (partitions_of s) (λ q. f (is_in s q) (is_in t q)) at.0 at.1 (sym at.2))
any_below_of_match f s t false T F holds at_one at_none = sym (any_below-of_none (partitions_of s) (λ q. f (is_in s q) (is_in t q)) (λ q lt. sym (at_none holds q lt)))

pub meets_of_any : (s t : PartitionSet) (b : Bool) → b ≡ any_below (partitions_of s) (λ q. is_in s q && is_in t q) → b ≡ meets s t
unfolding meets
meets_of_any s t b e = e

pub within_of_any : (s t : PartitionSet) (b : Bool) → b ≡ any_below (partitions_of s) (λ q. is_in s q && not (is_in t q)) → not b ≡ is_within s t
unfolding is_within
within_of_any s t b e = ap not e

-- whether two memberships differ
abbrev pub differ : Bool → Bool → Bool
differ true y = not y
differ false y = y

differ_not : (x y : Bool) → differ x y ≡ false → x ≡ y
differ_not true true e = refl
differ_not true false e = e
differ_not false y e = sym e

differ_self : (x : Bool) → differ x x ≡ false
differ_self true = refl
differ_self false = refl

pub same_of_any : (s t : PartitionSet) (b : Bool) → partitions_of s ≡ partitions_of t → b ≡ any_below (partitions_of s) (λ q. differ (is_in s q) (is_in t q)) → not b ≡ is_same s t
same_of_any s t true len e = false_is (is_same s t) (λ h. let f : ℕ → Bool = λ q. differ (is_in s q) (is_in t q) in let none : any_below (partitions_of s) f ≡ false = any_below-of_none (partitions_of s) f (λ q lt. ap (λ u. differ (is_in s q) (is_in u q)) (sym (same_says s t h)) ∙ differ_self (is_in s q)) in cc (e, none))
  where
    false_is : (x : Bool) → (x ≡ true → ⊥) → false ≡ x
    false_is true h = absurd (h refl)
    false_is false h = refl
same_of_any s t false len e = same_all s t (partitions_of s) len (omega arith) (λ q lt. differ_not (is_in s q) (is_in t q) (any_below-none (partitions_of s) (λ k. differ (is_in s k) (is_in t k)) (sym e) q lt))
