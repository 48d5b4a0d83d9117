-- The distinct keys of one shard.
use Rattle.std.proofs.Common.{◌≡◌, ◌∙◌, Bool, true, false, List, [], ◌∷◌, ◌++◌, sym, ap, refl, inl, inr}
use Rattle.std.specs.Prelude.{if◌then◌else◌, ◌||◌, filter}
use Rattle.std.specs.List.{fold}
use Rattle.std.specs.Str.{bytes_eq}
use Rattle.std.proofs.lemmas.Bool.{cases_Bool, false_from_ne_true, both_ways}
use Rattle.std.proofs.lemmas.List.{append-nil}
use Rattle.std.proofs.lemmas.List.Elements.{filter-append}
use Rattle.std.proofs.lemmas.Slice.Eq.{bytes_eq-Decides}
use Rattle.key_index.specs.Keys.{Key, distinct, is_interned, with_key}

differs : (p : Key → Bool) (x y : Key) → p x ≡ true → p y ≡ false → bytes_eq x y ≡ false
differs p x y px py = false_from_ne_true (bytes_eq x y) (λ e. both_ways (p x) (ap p ((bytes_eq-Decides x y).0 e) ∙ py) px)

-- a key that passes is interned among all keys if and only if it is among those that pass
pub interned-filter : (p : Key → Bool) (x : Key) → p x ≡ true → (ks : List Key) → is_interned (filter p ks) x ≡ is_interned ks x
interned-filter p x px [] = refl
interned-filter p x px (y ∷ ks) =
    elim (cases_Bool (p y)) [
      | inl py ↦ rw py (ap (λ b. bytes_eq x y || b) (interned-filter p x px ks))
      | inr py ↦ let other = differs p x y px py in rw (py, other) (interned-filter p x px ks)
    ]

retained-at : (b : Bool) (p : Key → Bool) (ks : List Key) (x : Key) → p x ≡ true
    → filter p (if b then ks else ks ++ x ∷ []) ≡ (if b then filter p ks else filter p ks ++ x ∷ [])
retained-at true p ks x px = refl
retained-at false p ks x px =
    let one : filter p (x ∷ []) ≡ x ∷ [] = rw px refl in
    filter-append p ks (x ∷ []) ∙ ap (λ zs. filter p ks ++ zs) one

pub with_key-retained : (p : Key → Bool) (ks : List Key) (x : Key) → p x ≡ true → filter p (with_key ks x) ≡ with_key (filter p ks) x
with_key-retained p ks x px =
    retained-at (is_interned ks x) p ks x px ∙ ap (λ b. if b then filter p ks else filter p ks ++ x ∷ []) (sym (interned-filter p x px ks))

dropped-at : (b : Bool) (p : Key → Bool) (ks : List Key) (x : Key) → p x ≡ false → filter p (if b then ks else ks ++ x ∷ []) ≡ filter p ks
dropped-at true p ks x px = refl
dropped-at false p ks x px =
    let none : filter p (x ∷ []) ≡ [] = rw px refl in
    filter-append p ks (x ∷ []) ∙ ap (λ zs. filter p ks ++ zs) none ∙ append-nil (filter p ks)

pub with_key-dropped : (p : Key → Bool) (ks : List Key) (x : Key) → p x ≡ false → filter p (with_key ks x) ≡ filter p ks
with_key-dropped p ks x px = dropped-at (is_interned ks x) p ks x px

added : (p : Key → Bool) (old keys : List Key) → filter p (fold with_key old keys) ≡ fold with_key (filter p old) (filter p keys)
added p old [] = refl
added p old (x ∷ keys) =
    elim (cases_Bool (p x)) [
      | inl px ↦ added p (with_key old x) keys ∙ rw px (ap (λ ks. fold with_key ks (filter p keys)) (with_key-retained p old x px))
      | inr px ↦ added p (with_key old x) keys ∙ rw px (ap (λ ks. fold with_key ks (filter p keys)) (with_key-dropped p old x px))
    ]

-- the distinct keys that pass are the distinct of those that pass
pub filter-distinct : (p : Key → Bool) (keys : List Key) → filter p (distinct keys) ≡ distinct (filter p keys)
unfolding distinct
filter-distinct p keys = added p [] keys
