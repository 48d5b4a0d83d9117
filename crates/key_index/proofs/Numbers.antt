-- Keys stored as vectors, seen as lists.
use Rattle.std.proofs.Common.{◌≡◌, ◌+◌, ℕ, Bool, true, false, List, [], ◌∷◌, ◌++◌, Some, None, length, map, ap, refl, cond}
use Rattle.std.specs.Prelude.{if◌then◌else◌, ◌||◌, not, nat_lt, position}
use Rattle.std.specs.List.{list_any, position_or_len, prefix_len}
use Rattle.std.proofs.lemmas.List.{map-append}

pub list_any-map : {X Y : Type 0} (p : Y → Bool) (f : X → Y) (xs : List X) → list_any p (map f xs) ≡ list_any (λ x. p (f x)) xs
list_any-map p f [] = refl
list_any-map p f (x ∷ xs) = ap (λ b. p (f x) || b) (list_any-map p f xs)

prefix_len-map : {X Y : Type 0} (p : Y → Bool) (f : X → Y) (xs : List X) → prefix_len p (map f xs) ≡ prefix_len (λ x. p (f x)) xs
prefix_len-map p f [] = refl
prefix_len-map p f (x ∷ xs) = ap (λ n. cond (p (f x)) (1 + n) 0) (prefix_len-map p f xs)

pub position_or_len-map : {X Y : Type 0} (p : Y → Bool) (f : X → Y) (xs : List X) → position_or_len p (map f xs) ≡ position_or_len (λ x. p (f x)) xs
position_or_len-map p f xs = prefix_len-map (λ y. not (p y)) f xs

picked : (b : Bool) (n i : ℕ) → Some i ≡ cond b (Some n) None → i ≡ n
picked true n i e = cc e
picked false n i e = cc e

pub position-is : {X : Type 0} (p : X → Bool) (xs : List X) (i : ℕ) → Some i ≡ position p xs → i ≡ position_or_len p xs
position-is p xs i e = picked (nat_lt (position_or_len p xs) (length xs)) (position_or_len p xs) i e

pub added-map : {X Y : Type 0} (f : X → Y) (b : Bool) (xs : List X) (x : X) → map f (if b then xs else xs ++ x ∷ []) ≡ (if b then map f xs else map f xs ++ f x ∷ [])
added-map f true xs x = refl
added-map f false xs x = map-append f xs (x ∷ [])
