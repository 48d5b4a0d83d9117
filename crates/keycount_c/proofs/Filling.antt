-- A loop that writes a list to the front of an output.
use Rattle.std.proofs.Common.{◌≡◌, ◌∙◌, ℕ, ◌+◌, ◌<◌, ◌≤◌, ◌==◌, Bool, true, false, ◌||◌, List, [], ◌∷◌, ◌++◌, refl, sym, ap, arith, drop, length, take}
use Rattle.std.specs.Prelude.{slice_set}
use Rattle.std.proofs.lemmas.Bool.Decides.{nat_tests}
use Rattle.std.proofs.lemmas.List.{append_assoc, append-nil, drop-set-lt, length-set, take-append-drop, take_more_set}
use Rattle.bit_planes.specs.PartitionSet.{PartitionSet, elements, is_in, size}
use Rattle.bit_planes.proofs.Listed.{is_listed, length-elements, listed_elements}
use Rattle.keycount_c.specs.Lists.{with_front}

-- so far `count` items of a list stand at the front of what was `old`, and `rest` is left
pub record IsFilling {X : Type 0} (items rest : List X) (count : ℕ) (out old : List X) : Type 0 where
  pub front : take count out ++ rest ≡ items
  pub back : (n : ℕ) → count ≤ n → drop n out ≡ drop n old
  pub len : length out ≡ length old
  pub sum : count + length rest ≡ length items

pub filling_none : {X : Type 0} (items rest old : List X) → rest ≡ items → IsFilling items rest 0 old old
filling_none items rest old e = let n = ap length e in record { front = e; back = λ m le. refl; len = refl; sum = omega (arith, n) }

-- what is left is of a set
abbrev pub AreOf : PartitionSet → List ℕ → Type 0
AreOf s rest = (q : ℕ) → is_listed q rest ≡ true → is_in s q ≡ true

pub elements_of : (s : PartitionSet) (rest : List ℕ) → rest ≡ elements s → AreOf s rest
elements_of s rest e q h = sym (listed_elements s q) ∙ ap (is_listed q) (sym e) ∙ h

this : (n : ℕ) (x : Bool) → ((n == n) || x) ≡ true
this n x = grind (arith, nat_tests)

first_or : (x : Bool) → (x || true) ≡ true
first_or true = refl
first_or false = refl

pub first_of : (s : PartitionSet) (rest rest' : List ℕ) (q : ℕ) → rest ≡ q ∷ rest' → AreOf s rest → is_in s q ≡ true
first_of s rest rest' q e of = of q (ap (is_listed q) e ∙ this q (is_listed q rest'))

pub rest_of : (s : PartitionSet) (rest rest' : List ℕ) (q : ℕ) → rest ≡ q ∷ rest' → AreOf s rest → AreOf s rest'
rest_of s rest rest' q e of p h = of p (ap (is_listed p) e ∙ ap (λ b. (p == q) || b) h ∙ first_or (p == q))

-- the size of a set is the number of its elements
pub length_elements : (s : PartitionSet) → length (elements s) ≡ size s
unfolding size
length_elements s = length-elements s
