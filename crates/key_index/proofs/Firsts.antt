-- The first record of a key.
use Rattle.std.proofs.Common.{◌≡◌, ◌∙◌, ◌+◌, ◌≤◌, ℕ, Bool, true, false, List, [], ◌∷◌, ◌++◌, length, sym, ap, refl, arith, inl, inr}
use Rattle.std.specs.Prelude.{if◌then◌else◌, ◌==◌, ◌↔◌, filter}
use Rattle.std.specs.List.{fold}
use Rattle.std.specs.Str.{bytes_eq}
use Rattle.std.proofs.lemmas.Bool.{cases_Bool, eq-eqb, both_ways}
use Rattle.std.proofs.lemmas.List.Elements.{filter-append}
use Rattle.std.proofs.lemmas.List.Sums.{fold-append}
use Rattle.std.proofs.lemmas.Slice.Eq.{bytes_eq-Decides}
use Rattle.key_index.specs.Keys.{Key, distinct, is_interned, id_of, with_key}
use Rattle.key_index.specs.Private.Sharded.{of_shard}
use Rattle.key_index.proofs.Growth.{fresh, grows, interned}
use Rattle.key_index.proofs.Filtered.{filter-distinct, interned-filter}

pub interned-append : (ks zs : List Key) (x : Key) → is_interned ks x ≡ true → (is_interned (ks ++ zs) x ≡ true) × (id_of (ks ++ zs) x ≡ id_of ks x)
interned-append [] zs x h = absurd (cc h)
interned-append (k ∷ ks) zs x h =
    elim (cases_Bool (bytes_eq x k)) [
      | inl e ↦ rw e (refl, refl)
      | inr e ↦
          let later : is_interned ks x ≡ true = rw e at h in
          let there = interned-append ks zs x later in
          rw e (there.0, ap (λ n. 1 + n) there.1)
    ]

new-last : (ks : List Key) (x : Key) → is_interned ks x ≡ false → (is_interned (ks ++ x ∷ []) x ≡ true) × (id_of (ks ++ x ∷ []) x ≡ id_of ks x)
new-last [] x h = let same : bytes_eq x x ≡ true = (bytes_eq-Decides x x).1 refl in rw same (refl, refl)
new-last (k ∷ ks) x h =
    elim (cases_Bool (bytes_eq x k)) [
      | inl e ↦ absurd (let clash : true ≡ false = rw e at h in cc clash)
      | inr e ↦
          let later : is_interned ks x ≡ false = rw e at h in
          let there = new-last ks x later in
          rw e (there.0, ap (λ n. 1 + n) there.1)
    ]

own-at : (b : Bool) (ks : List Key) (x : Key) → is_interned ks x ≡ b → (let ws = if b then ks else ks ++ x ∷ [] in (is_interned ws x ≡ true) × (id_of ws x ≡ id_of ks x))
own-at true ks x e = (e, refl)
own-at false ks x e = new-last ks x e

pub own : (ks : List Key) (x : Key) → (is_interned (with_key ks x) x ≡ true) × (id_of (with_key ks x) x ≡ id_of ks x)
own ks x = own-at (is_interned ks x) ks x refl

stays-at : (b : Bool) (ks : List Key) (x y : Key) → is_interned ks x ≡ true → (let ws = if b then ks else ks ++ y ∷ [] in (is_interned ws x ≡ true) × (id_of ws x ≡ id_of ks x))
stays-at true ks x y h = (h, refl)
stays-at false ks x y h = interned-append ks (y ∷ []) x h

-- an interned key stays interned and keeps its number
pub stays : (ks zs : List Key) (x : Key) → is_interned ks x ≡ true → (is_interned (fold with_key ks zs) x ≡ true) × (id_of (fold with_key ks zs) x ≡ id_of ks x)
stays ks [] x h = (h, refl)
stays ks (z ∷ zs) x h =
    let there = stays-at (is_interned ks z) ks x z h in
    let later = stays (with_key ks z) zs x there.0 in
    (later.0, later.1 ∙ there.1)

pub number-there : (xs ys : List Key) (x : Key) → id_of (distinct (xs ++ x ∷ ys)) x ≡ id_of (distinct xs) x
unfolding distinct
number-there xs ys x =
    let ks = distinct xs in
    ap (λ ws. id_of ws x) (fold-append with_key [] xs (x ∷ ys)) ∙ (stays (with_key ks x) ys x (own ks x).0).1 ∙ (own ks x).1

pub interned-there : (xs ys : List Key) (x : Key) → is_interned (distinct (xs ++ x ∷ ys)) x ≡ true
unfolding distinct
interned-there xs ys x =
    let ks = distinct xs in
    ap (λ ws. is_interned ws x) (fold-append with_key [] xs (x ∷ ys)) ∙ (stays (with_key ks x) ys x (own ks x).0).0

-- a key is new if and only if its number is the number of keys
pub new_is_next : (ks : List Key) (x : Key) → (id_of ks x ≡ length ks) ↔ (is_interned ks x ≡ false)
new_is_next ks x =
    elim (cases_Bool (is_interned ks x)) [
      | inl e ↦ (λ h. absurd (let there = interned ks x e in omega (arith, there.0, h)), λ f. absurd (both_ways (is_interned ks x) f e))
      | inr e ↦ (λ h. e, λ f. fresh ks x e)
    ]

pub first_in_shard : (shard : Key → ℕ) (xs ys : List Key) (x : Key)
    → (id_of (distinct (of_shard shard (shard x) (xs ++ x ∷ ys))) x ≡ length (distinct (of_shard shard (shard x) xs))) ↔ (is_interned (distinct xs) x ≡ false)
first_in_shard shard xs ys x =
    let p : Key → Bool = λ k. shard k == shard x in
    let px : p x ≡ true = eq-eqb (shard x) (shard x) refl in
    let ends : filter p (x ∷ ys) ≡ x ∷ filter p ys = rw px refl in
    let number : id_of (distinct (filter p (xs ++ x ∷ ys))) x ≡ id_of (distinct (filter p xs)) x =
    ap (λ ks. id_of (distinct ks) x) (filter-append p xs (x ∷ ys) ∙ ap (λ ks. filter p xs ++ ks) ends) ∙ number-there (filter p xs) (filter p ys) x in
    let same : is_interned (distinct (filter p xs)) x ≡ is_interned (distinct xs) x =
    ap (λ ks. is_interned ks x) (sym (filter-distinct p xs)) ∙ interned-filter p x px (distinct xs) in
    let local_id = new_is_next (distinct (filter p xs)) x in
    (λ h. sym same ∙ local_id.0 (sym number ∙ h), λ f. number ∙ local_id.1 (same ∙ f))

-- no key is dropped
longer : (ks zs : List Key) → length ks ≤ length (fold with_key ks zs)
longer ks [] = omega arith
longer ks (z ∷ zs) = omega (arith, (grows ks z).longer, longer (with_key ks z) zs)

pub length-first : (xs ys : List Key) → length (distinct xs) ≤ length (distinct (xs ++ ys))
unfolding distinct
length-first xs ys =
    let whole = ap length (fold-append with_key [] xs ys) in
    omega (arith, whole, longer (distinct xs) ys)
