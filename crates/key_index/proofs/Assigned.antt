-- Key numbers assigned record by record, over records interned shard by shard.
use Rattle.std.proofs.Common.{◌≡◌, ◌∙◌, ◌+◌, ◌<◌, ◌≤◌, ℕ, suc, zero, Bool, true, false, List, [], ◌∷◌, ◌++◌, length, map, take, drop, get_or, replicate, sym, ap, refl, subst, arith, inl, inr, length-append}
use Rattle.std.specs.Prelude.{if◌then◌else◌, ◌==◌, slice_set}
use Rattle.std.proofs.Common.{get_or-set_same, get_or-set_other}
use Rattle.std.proofs.Math.ListN.{length-set}
use Rattle.std.proofs.lemmas.Bool.{cases_Bool, cases_eq, eq-eqb, ne_eqb, both_ways}
use Rattle.std.proofs.lemmas.List.{append-nil, map-append, get_or-map, length-map, set-get_or, take-append-drop, drop_more, take_more, take_all}
use Rattle.std.proofs.lemmas.List.Elements.{filter-append}
use Rattle.std.proofs.lemmas.List.Sums.{fold-append}
use Rattle.key_index.specs.Keys.{Key, distinct, is_interned, key_at, id_of, with_key}
use Rattle.key_index.specs.Private.Sharded.{of_shard}
use Rattle.key_index.specs.Private.Sharded.{AreGlobal, is_first, next_after, with_first}
use Rattle.key_index.proofs.Growth.{fresh, interned}
use Rattle.key_index.proofs.Filtered.{filter-distinct, interned-filter}
use Rattle.key_index.proofs.Firsts.{first_in_shard, interned-there, number-there}

-- what is assigned after the records of xs, the first ones of all
pub record AreAssigned (shard : Key → ℕ) (all xs : List Key) (globals : List (List ℕ)) (next : ℕ) : Type 0 where
  pub counted : next ≡ length (distinct xs)
  pub numbers : (s : ℕ) → s < length globals → get_or globals s [] ≡ map (id_of (distinct all)) (of_shard shard s (distinct xs))

pub one-more : (xs : List Key) (x : Key) → distinct (xs ++ x ∷ []) ≡ with_key (distinct xs) x
unfolding distinct
one-more xs x = fold-append with_key [] xs (x ∷ [])

pub more-interned : (xs : List Key) (x : Key) → is_interned (distinct xs) x ≡ true → distinct (xs ++ x ∷ []) ≡ distinct xs
more-interned xs x e = one-more xs x ∙ ap (λ b. if b then distinct xs else distinct xs ++ x ∷ []) e

pub more-new : (xs : List Key) (x : Key) → is_interned (distinct xs) x ≡ false → distinct (xs ++ x ∷ []) ≡ distinct xs ++ x ∷ []
more-new xs x e = one-more xs x ∙ ap (λ b. if b then distinct xs else distinct xs ++ x ∷ []) e

assigned-interned : (shard : Key → ℕ) (all xs : List Key) (x : Key) (globals : List (List ℕ)) (next : ℕ) → is_interned (distinct xs) x ≡ true → AreAssigned shard all xs globals next → AreAssigned shard all (xs ++ x ∷ []) globals next
assigned-interned shard all xs x globals next e w =
    let same = more-interned xs x e in record {
      counted = w.counted ∙ ap length (sym same);
      numbers = λ s lt. w.numbers s lt ∙ ap (λ ks. map (id_of (distinct all)) (of_shard shard s ks)) (sym same);
    }

assigned-new : (shard : Key → ℕ) (all xs ys : List Key) (x : Key) (globals : List (List ℕ)) (next : ℕ) → all ≡ xs ++ x ∷ ys → is_interned (distinct xs) x ≡ false → shard x < length globals
    → AreAssigned shard all xs globals next → AreAssigned shard all (xs ++ x ∷ []) (slice_set globals (shard x) (get_or globals (shard x) [] ++ next ∷ [])) (next + 1)
assigned-new shard all xs ys x globals next is e lt w =
    let more = more-new xs x e in
    let last : length (distinct xs ++ x ∷ []) ≡ length (distinct xs) + 1 = length-append (distinct xs) (x ∷ []) in
    let long : length (distinct (xs ++ x ∷ [])) ≡ length (distinct xs) + 1 = ap length more ∙ last in
    let number : id_of (distinct all) x ≡ next = ap (λ ks. id_of (distinct ks) x) is ∙ number-there xs ys x ∙ fresh (distinct xs) x e ∙ sym w.counted in
    let f = id_of (distinct all) in
    let old = get_or globals (shard x) [] in record {
      counted = omega (arith, long, w.counted);
      numbers = λ s s_in.
          let s_old : s < length globals = omega (arith, s_in, length-set globals (shard x) (old ++ next ∷ [])) in
          let parts : of_shard shard s (distinct (xs ++ x ∷ [])) ≡ of_shard shard s (distinct xs) ++ of_shard shard s (x ∷ []) =
          ap (of_shard shard s) more ∙ filter-append (λ k. shard k == s) (distinct xs) (x ∷ []) in
          elim (cases_eq s (shard x)) [
            | inl is_it ↦
                let test : (shard x == s) ≡ true = eq-eqb (shard x) s (sym is_it) in
                let one : of_shard shard s (x ∷ []) ≡ x ∷ [] = rw test refl in
                ap (λ t. get_or (slice_set globals (shard x) (old ++ next ∷ [])) t []) is_it ∙ get_or-set_same globals (shard x) (old ++ next ∷ []) [] lt
                ∙ ap (λ t. get_or globals t [] ++ next ∷ []) (sym is_it) ∙ ap (λ ns. ns ++ next ∷ []) (w.numbers s s_old)
                ∙ ap (λ n. map f (of_shard shard s (distinct xs)) ++ n ∷ []) (sym number)
                ∙ sym (ap (map f) (parts ∙ ap (λ ks. of_shard shard s (distinct xs) ++ ks) one) ∙ map-append f (of_shard shard s (distinct xs)) (x ∷ []))
            | inr ne ↦
                let test : (shard x == s) ≡ false = ne_eqb (shard x) s (λ h. ne (sym h)) in
                let none : of_shard shard s (x ∷ []) ≡ [] = rw test refl in
                get_or-set_other globals (shard x) s (old ++ next ∷ []) [] ne ∙ w.numbers s s_old
                ∙ sym (ap (map f) (parts ∙ ap (λ ks. of_shard shard s (distinct xs) ++ ks) none ∙ append-nil (of_shard shard s (distinct xs))))
          ];
    }

assigned-one : (shard : Key → ℕ) (all xs ys : List Key) (x : Key) (globals : List (List ℕ)) (next local_id : ℕ) → all ≡ xs ++ x ∷ ys → shard x < length globals
    → local_id ≡ id_of (distinct (of_shard shard (shard x) all)) x → AreAssigned shard all xs globals next
    → (let old = get_or globals (shard x) [] in AreAssigned shard all (xs ++ x ∷ []) (slice_set globals (shard x) (with_first old local_id next)) (next_after old local_id next))
assigned-one shard all xs ys x globals next local_id is lt at w =
    let old = get_or globals (shard x) [] in
    let long : length old ≡ length (distinct (of_shard shard (shard x) xs)) =
    ap length (w.numbers (shard x) lt) ∙ length-map (of_shard shard (shard x) (distinct xs)) (id_of (distinct all)) ∙ ap length (filter-distinct (λ k. shard k == shard x) xs) in
    let first = first_in_shard shard xs ys x in
    let here : local_id ≡ id_of (distinct (of_shard shard (shard x) (xs ++ x ∷ ys))) x = at ∙ ap (λ ks. id_of (distinct (of_shard shard (shard x) ks)) x) is in
    elim (cases_Bool (is_interned (distinct xs) x)) [
      | inl e ↦
          let test : is_first old local_id ≡ false = ne_eqb local_id (length old) (λ h. both_ways (is_interned (distinct xs) x) (first.0 (sym here ∙ h ∙ long)) e) in
          rw test (subst (λ gs. AreAssigned shard all (xs ++ x ∷ []) gs next) (sym (set-get_or globals (shard x) [])) (assigned-interned shard all xs x globals next e w))
      | inr e ↦
          let test : is_first old local_id ≡ true = eq-eqb local_id (length old) (here ∙ first.1 e ∙ sym long) in
          rw test (assigned-new shard all xs ys x globals next is e lt w)
    ]

pub assigned-more : (shard : Key → ℕ) (keys : List Key) (i s local_id : ℕ) (globals : List (List ℕ)) (next : ℕ) → i < length keys → s ≡ shard (get_or keys i []) → s < length globals
    → local_id ≡ id_of (distinct (of_shard shard s keys)) (get_or keys i []) → AreAssigned shard keys (take i keys) globals next
    → (let old = get_or globals s [] in AreAssigned shard keys (take (i + 1) keys) (slice_set globals s (with_first old local_id next)) (next_after old local_id next))
assigned-more shard keys i s local_id globals next lt at below is w =
    let x = get_or keys i [] in
    let seam : keys ≡ take i keys ++ x ∷ drop (i + 1) keys = sym (take-append-drop i keys) ∙ ap (λ ks. take i keys ++ ks) (drop_more keys i [] lt) in
    let below_x : shard x < length globals = subst (λ t. t < length globals) at below in
    let is_x : local_id ≡ id_of (distinct (of_shard shard (shard x) keys)) x = is ∙ ap (λ t. id_of (distinct (of_shard shard t keys)) x) at in
    subst (λ t. AreAssigned shard keys (take (i + 1) keys) (slice_set globals t (with_first (get_or globals t []) local_id next)) (next_after (get_or globals t []) local_id next)) (sym at)
    (subst (λ xs. AreAssigned shard keys xs (slice_set globals (shard x) (with_first (get_or globals (shard x) []) local_id next)) (next_after (get_or globals (shard x) []) local_id next))
    (sym (take_more keys i [] lt)) (assigned-one shard keys (take i keys) (drop (i + 1) keys) x globals next local_id seam below_x is_x w))

pub assigned-none : (shard : Key → ℕ) (keys : List Key) (n : ℕ) → AreAssigned shard keys [] (replicate n []) 0
unfolding distinct
assigned-none shard keys n = record {
  counted = refl;
  numbers = λ s lt. empty-at n s;
}
  where
    empty-at : (n s : ℕ) → get_or (replicate {A = List ℕ} n []) s [] ≡ []
    empty-at zero s = refl
    empty-at (suc n) zero = refl
    empty-at (suc n) (suc s) = empty-at n s

pub assigned-all : (shard : Key → ℕ) (keys : List Key) (n : ℕ) (globals : List (List ℕ)) (next : ℕ) → length keys ≤ n → AreAssigned shard keys (take n keys) globals next → AreGlobal shard keys globals
assigned-all shard keys n globals next le w = λ s lt.
    let whole : take n keys ≡ keys = take_all n keys le in
    w.numbers s lt ∙ ap (λ ks. map (id_of (distinct keys)) (of_shard shard s (distinct ks))) whole ∙ ap (map (id_of (distinct keys))) (filter-distinct (λ k. shard k == s) keys)

pub own-interned : (shard : Key → ℕ) (keys : List Key) (i : ℕ) → i < length keys → is_interned (distinct (of_shard shard (shard (get_or keys i [])) keys)) (get_or keys i []) ≡ true
own-interned shard keys i lt =
    let x = get_or keys i [] in
    let seam : keys ≡ take i keys ++ x ∷ drop (i + 1) keys = sym (take-append-drop i keys) ∙ ap (λ ks. take i keys ++ ks) (drop_more keys i [] lt) in
    let p : Key → Bool = λ k. shard k == shard x in
    let px : p x ≡ true = eq-eqb (shard x) (shard x) refl in
    ap (λ ks. is_interned ks x) (sym (filter-distinct p keys)) ∙ interned-filter p x px (distinct keys) ∙ ap (λ ks. is_interned (distinct ks) x) seam ∙ interned-there (take i keys) (drop (i + 1) keys) x

-- the number of record i in its shard is that of a key, and its key number is stored there
pub of_record : (shard : Key → ℕ) (keys : List Key) (i s local_id : ℕ) (globals : List (List ℕ)) → i < length keys → s ≡ shard (get_or keys i []) → s < length globals
    → local_id ≡ id_of (distinct (of_shard shard s keys)) (get_or keys i []) → AreGlobal shard keys globals
    → (local_id < length (get_or globals s [])) × (get_or (get_or globals s []) local_id 0 ≡ id_of (distinct keys) (key_at keys i))
of_record shard keys i s local_id globals lt at below is all =
    let x = get_or keys i [] in
    let own = distinct (of_shard shard s keys) in
    let was_interned : is_interned own x ≡ true = ap (λ t. is_interned (distinct (of_shard shard t keys)) x) at ∙ own-interned shard keys i lt in
    let there = interned own x was_interned in
    let row : get_or globals s [] ≡ map (id_of (distinct keys)) own = all s below in
    let long : length (get_or globals s []) ≡ length own = ap length row ∙ length-map own (id_of (distinct keys)) in (
      omega (arith, there.0, is, long),
      ap (λ l. get_or (get_or globals s []) l 0) is ∙ ap (λ ns. get_or ns (id_of own x) 0) row ∙ get_or-map (id_of (distinct keys)) own (id_of own x) [] 0 there.0 ∙ ap (id_of (distinct keys)) there.1,
    )
