-- The elements of a set, listed in rising order.
use Rattle.std.proofs.Common.{ℕ, zero, suc, ◌≡◌, ◌≢◌, ◌+◌, ◌<◌, ◌≤◌, ◌==◌, ◌||◌, ◌&&◌, Bool, true, false, List, [], ◌∷◌, ◌++◌, length, drop, refl, ap, sym, ◌∙◌, arith, inl, inr, length-append}
use Rattle.std.specs.Prelude.{if◌then◌else◌}
use Rattle.std.specs.List.{list_any}
use Rattle.std.proofs.lemmas.Bool.{cases_lt}
use Rattle.std.proofs.lemmas.Bool.Decides.{nat_tests}
use Rattle.std.proofs.lemmas.List.{drop-append-le, drop_all}
use Rattle.bit_planes.specs.Private.Lists.{list_where}
use Rattle.bit_planes.specs.Private.ElementsFrom.{IsLowestElement}
use Rattle.bit_planes.specs.PartitionSet.{PartitionSet, partitions_of, is_in, one, how_many, rank, elements}
use Rattle.bit_planes.proofs.Sets.{in_below, past, rank_is, rank_in, rank_out, rank_past, how_many-rises}

one_listed : (x : Bool) (n : ℕ) → length (if x then n ∷ [] else []) ≡ one x
one_listed true n = refl
one_listed false n = refl

length-list_where : (n : ℕ) (f : ℕ → Bool) → length (list_where n f) ≡ how_many n f
length-list_where zero f = refl
length-list_where (suc n) f =
    let below : List ℕ = list_where n f in
    let here : List ℕ = if f n then n ∷ [] else [] in
    omega (arith, length-append below here, length-list_where n f, one_listed (f n) n)

last_listed : (k : ℕ) (xs : List ℕ) (x : ℕ) (b : Bool) → k ≡ length xs → b ≡ true → drop k (xs ++ (if b then x ∷ [] else [])) ≡ x ∷ drop (suc k) (xs ++ (if b then x ∷ [] else []))
last_listed k xs x false e h = absurd (cc h)
last_listed zero [] x true e h = refl
last_listed zero (y ∷ xs) x true e h = absurd (omega arith)
last_listed (suc k) [] x true e h = absurd (omega arith)
last_listed (suc k) (y ∷ xs) x true e h = last_listed k xs x true (omega arith) refl

list_where-at : (n : ℕ) (f : ℕ → Bool) (q : ℕ) → q < n → f q ≡ true → drop (how_many q f) (list_where n f) ≡ q ∷ drop (suc (how_many q f)) (list_where n f)
list_where-at zero f q lt h = absurd (omega arith)
list_where-at (suc n) f q lt h = elim (cases_lt q n) [
  | inl below ↦
      let k : ℕ = how_many q f in
      let xs : List ℕ = list_where n f in
      let ys : List ℕ = if f n then n ∷ [] else [] in
      let len = length-list_where n f in
      let rises = how_many-rises (suc q) n f below in
      let one_more : how_many (suc q) f ≡ how_many q f + 1 = ap (λ x. how_many q f + one x) h in
      drop-append-le k xs ys (omega arith) ∙ ap (λ zs. zs ++ ys) (list_where-at n f q below h) ∙ ap (λ zs. q ∷ zs) (sym (drop-append-le (suc k) xs ys (omega arith)))
  | inr le ↦
      let e : q ≡ n = omega arith in
      let len = length-list_where n f in
      rw e (last_listed (how_many n f) (list_where n f) n (f n) (sym len) (ap f (sym e) ∙ h))
]

pub elements-at : (s : PartitionSet) (q : ℕ) → is_in s q ≡ true → drop (rank s q) (elements s) ≡ q ∷ drop (rank s (q + 1)) (elements s)
unfolding elements
elements-at s q h =
    let next : rank s (q + 1) ≡ suc (how_many q (is_in s)) = omega (arith, rank_in s q h, rank_is s q) in
    rw (next, rank_is s q) (list_where-at (partitions_of s) (is_in s) q (in_below s q h) h)

pub elements-first : (s : PartitionSet) → drop (rank s 0) (elements s) ≡ elements s
elements-first s = rw (rank_is s 0) refl

pub elements-end : (s : PartitionSet) (r : ℕ) → r ≡ rank s (partitions_of s) → drop r (elements s) ≡ []
unfolding elements
elements-end s r e =
    let len = length-list_where (partitions_of s) (is_in s) in
    drop_all r (list_where (partitions_of s) (is_in s)) (omega (arith, e, rank_is s (partitions_of s)))

rank_between : (s : PartitionSet) (from q : ℕ) → from ≤ q → ((n : ℕ) → from ≤ n → n < q → is_in s n ≡ false) → rank s q ≡ rank s from
rank_between s from zero le none = let e : from ≡ 0 = omega arith in rw e refl
rank_between s from (suc q) le none = elim (cases_lt from (suc q)) [
  | inl lt ↦
      let next : suc q ≡ q + 1 = omega arith in
      rw next (rank_out s q (none q (omega arith) (omega arith)) ∙ rank_between s from q (omega arith) (λ n below above. none n below (omega arith)))
  | inr ge ↦ let e : from ≡ suc q = omega arith in rw e refl
]

pub elements-next : (s : PartitionSet) (from q : ℕ) → IsLowestElement s from q → drop (rank s from) (elements s) ≡ q ∷ drop (rank s (q + 1)) (elements s)
elements-next s from q low = ap (λ r. drop r (elements s)) (sym (rank_between s from q low.not_below low.none)) ∙ elements-at s q low.member

pub elements-over : (s : PartitionSet) (from : ℕ) → ((q : ℕ) → from ≤ q → is_in s q ≡ false) → drop (rank s from) (elements s) ≡ []
elements-over s from none = elements-end s (rank s from) (elim (cases_lt from (partitions_of s)) [
  | inl lt ↦ sym (rank_between s from (partitions_of s) (omega arith) (λ n le below. none n le))
  | inr le ↦ rank_past s from le ∙ sym (rank_past s (partitions_of s) (omega arith))
])

pub length-elements : (s : PartitionSet) → length (elements s) ≡ rank s (partitions_of s)
unfolding elements
length-elements s = length-list_where (partitions_of s) (is_in s) ∙ sym (rank_is s (partitions_of s))

-- ---- whether a number is listed
or_none : (x : Bool) → (x || false) ≡ x
or_none true = refl
or_none false = refl

no_second : (x y : Bool) → y ≡ false → (x && y) ≡ false
no_second true y e = e
no_second false y e = refl

other : (q n : ℕ) → q ≢ n → (q == n) ≡ false
other q n ne = grind (arith, nat_tests)

this : (n : ℕ) → (n == n) ≡ true
this n = grind (arith, nat_tests)

-- whether a number is in a list
abbrev pub is_listed : ℕ → List ℕ → Bool
is_listed q xs = list_any (λ x. q == x) xs

listed_either : (q : ℕ) (xs ys : List ℕ) → is_listed q (xs ++ ys) ≡ (is_listed q xs || is_listed q ys)
listed_either q [] ys = refl
listed_either q (x ∷ xs) ys = rw (listed_either q xs ys) (first (q == x) (is_listed q xs) (is_listed q ys))
  where
    first : (x y z : Bool) → (x || (y || z)) ≡ ((x || y) || z)
    first true y z = refl
    first false y z = refl

listed_last : (q n : ℕ) (b : Bool) → is_listed q (if b then n ∷ [] else []) ≡ (b && (q == n))
listed_last q n true = or_none (q == n)
listed_last q n false = refl

listed_step : (q n : ℕ) (f : ℕ → Bool) → is_listed q (list_where (suc n) f) ≡ (is_listed q (list_where n f) || (f n && (q == n)))
listed_step q n f = listed_either q (list_where n f) (if f n then n ∷ [] else []) ∙ ap (λ x. is_listed q (list_where n f) || x) (listed_last q n (f n))

listed_past : (q n : ℕ) (f : ℕ → Bool) → n ≤ q → is_listed q (list_where n f) ≡ false
listed_past q zero f le = refl
listed_past q (suc n) f le =
    let before = listed_past q n f (omega arith) in
    listed_step q n f ∙ rw before (no_second (f n) (q == n) (other q n (λ e. omega arith)))

listed_below : (q n : ℕ) (f : ℕ → Bool) → q < n → is_listed q (list_where n f) ≡ f q
listed_below q zero f lt = absurd (omega arith)
listed_below q (suc n) f lt = listed_step q n f ∙ elim (cases_lt q n) [
  | inl below ↦
      let before = listed_below q n f below in
      let none = no_second (f n) (q == n) (other q n (λ e. omega arith)) in
      rw (before, none) (or_none (f q))
  | inr le ↦
      let e : q ≡ n = omega arith in
      let before = listed_past q n f le in
      rw before (rw e (all_of (f n) (n == n) (this n)))
]
  where
    all_of : (x y : Bool) → y ≡ true → (x && y) ≡ x
    all_of true y e = e
    all_of false y e = refl

pub listed_elements : (s : PartitionSet) (q : ℕ) → is_listed q (elements s) ≡ is_in s q
unfolding elements
listed_elements s q = elim (cases_lt q (partitions_of s)) [
  | inl lt ↦ listed_below q (partitions_of s) (is_in s) lt
  | inr le ↦ listed_past q (partitions_of s) (is_in s) le ∙ sym (past s q le)
]
