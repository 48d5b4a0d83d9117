-- The locations of the keys that have been assigned numbers.
use Rattle.std.proofs.Common.{◌≡◌, ◌∙◌, ◌+◌, ◌<◌, ℕ, Bool, true, false, List, [], ◌∷◌, ◌++◌, length, take, drop, get_or, sym, ap, refl, subst, inl, inr, length-append}
use Rattle.std.specs.Prelude.{◌==◌, All}
use Rattle.std.proofs.lemmas.Bool.{cases_Bool, eq-eqb, ne_eqb, both_ways}
use Rattle.std.proofs.lemmas.List.{length-map, map-append, take-append-drop, drop_more, take_more}
use Rattle.std.proofs.lemmas.List.Elements.{All-append, All-cons, All-nil}
use Rattle.key_index.specs.Keys.{Key, distinct, is_interned, key_at, id_of}
use Rattle.key_index.specs.Private.Sharded.{AreOrdered, is_first, next_after, of_shard, order_after}
use Rattle.key_index.specs.declared.shards.KeyLocation.{KeyLocation}
use Rattle.key_index.proofs.Growth.{interned}
use Rattle.key_index.proofs.Filtered.{filter-distinct, interned-filter}
use Rattle.key_index.proofs.Firsts.{first_in_shard, interned-there}
use Rattle.key_index.proofs.Assigned.{AreAssigned, more-interned, more-new}

pub ordered-none : (shard : Key → ℕ) (all : List Key) (count : ℕ) → AreOrdered shard all (distinct []) count []
unfolding distinct
ordered-none shard all count = record { named = refl; there = All-nil _ }

ordered-interned : (shard : Key → ℕ) (all xs : List Key) (x : Key) (count : ℕ) (order : List KeyLocation) → is_interned (distinct xs) x ≡ true → AreOrdered shard all (distinct xs) count order
    → AreOrdered shard all (distinct (xs ++ x ∷ [])) count order
ordered-interned shard all xs x count order e h = subst (λ ks. AreOrdered shard all ks count order) (sym (more-interned xs x e)) h

ordered-new : (shard : Key → ℕ) (all xs ys : List Key) (x : Key) (count local_id : ℕ) (order : List KeyLocation) → all ≡ xs ++ x ∷ ys → shard x < count
    → local_id ≡ id_of (distinct (of_shard shard (shard x) all)) x → is_interned (distinct xs) x ≡ false → AreOrdered shard all (distinct xs) count order
    → AreOrdered shard all (distinct (xs ++ x ∷ [])) count (order ++ (record { shard = shard x; number = local_id }) ∷ [])
ordered-new shard all xs ys x count local_id order is lt at e h =
    let name : KeyLocation → Key = λ where_it. key_at (distinct (of_shard shard where_it.shard all)) where_it.number in
    let here : KeyLocation = record { shard = shard x; number = local_id } in
    let goes : Key → Bool = λ k. shard k == shard x in
    let goes_x : goes x ≡ true = eq-eqb (shard x) (shard x) refl in
    let own = distinct (of_shard shard (shard x) all) in
    let was_interned : is_interned own x ≡ true =
    ap (λ ks. is_interned ks x) (sym (filter-distinct goes all)) ∙ interned-filter goes x goes_x (distinct all) ∙ ap (λ ks. is_interned (distinct ks) x) is ∙ interned-there xs ys x in
    let there = interned own x was_interned in
    let named_x : name here ≡ x = ap (key_at own) at ∙ there.1 in
    let within : local_id < length own = rw at there.0 in
    let stands : KeyLocation → Type 0 = λ (where_it : KeyLocation). (where_it.shard < count) × (where_it.number < length (distinct (of_shard shard where_it.shard all))) in
    let last : All stands (here ∷ []) = All-cons stands here [] (lt, within) (All-nil stands) in record {
      named = map-append name order (here ∷ []) ∙ ap (λ ks. ks ++ name here ∷ []) h.named ∙ ap (λ (k : Key). distinct xs ++ k ∷ []) named_x ∙ sym (more-new xs x e);
      there = All-append stands order (here ∷ []) h.there last;
    }

ordered-one : (shard : Key → ℕ) (all xs ys : List Key) (x : Key) (ids : List (List ℕ)) (next local_id count : ℕ) (order : List KeyLocation) → all ≡ xs ++ x ∷ ys → shard x < length ids → shard x < count
    → local_id ≡ id_of (distinct (of_shard shard (shard x) all)) x → AreAssigned shard all xs ids next → AreOrdered shard all (distinct xs) count order
    → AreOrdered shard all (distinct (xs ++ x ∷ [])) count (order_after order ids (shard x) local_id)
ordered-one shard all xs ys x ids next local_id count order is lt below at w h =
    let old = get_or ids (shard x) [] in
    let long : length old ≡ length (distinct (of_shard shard (shard x) xs)) =
    ap length (w.numbers (shard x) lt) ∙ length-map (of_shard shard (shard x) (distinct xs)) (id_of (distinct all)) ∙ ap length (filter-distinct (λ k. shard k == shard x) xs) in
    let first = first_in_shard shard xs ys x in
    let here : local_id ≡ id_of (distinct (of_shard shard (shard x) (xs ++ x ∷ ys))) x = at ∙ ap (λ ks. id_of (distinct (of_shard shard (shard x) ks)) x) is in
    elim (cases_Bool (is_interned (distinct xs) x)) [
      | inl e ↦
          let test : is_first old local_id ≡ false = ne_eqb local_id (length old) (λ same. both_ways (is_interned (distinct xs) x) (first.0 (sym here ∙ same ∙ long)) e) in
          rw test (ordered-interned shard all xs x count order e h)
      | inr e ↦
          let test : is_first old local_id ≡ true = eq-eqb local_id (length old) (here ∙ first.1 e ∙ sym long) in
          rw test (ordered-new shard all xs ys x count local_id order is below at e h)
    ]

pub ordered-more : (shard : Key → ℕ) (keys : List Key) (i s local_id : ℕ) (ids : List (List ℕ)) (next count : ℕ) (order : List KeyLocation) → i < length keys → s ≡ shard (get_or keys i [])
    → s < length ids → s < count → local_id ≡ id_of (distinct (of_shard shard s keys)) (get_or keys i []) → AreAssigned shard keys (take i keys) ids next → AreOrdered shard keys (distinct (take i keys)) count order
    → AreOrdered shard keys (distinct (take (i + 1) keys)) count (order_after order ids s local_id)
ordered-more shard keys i s local_id ids next count order lt at below within is w h =
    let x = get_or keys i [] in
    let seam : keys ≡ take i keys ++ x ∷ drop (i + 1) keys = sym (take-append-drop i keys) ∙ ap (λ ks. take i keys ++ ks) (drop_more keys i [] lt) in
    let below_x : shard x < length ids = subst (λ t. t < length ids) at below in
    let within_x : shard x < count = subst (λ t. t < count) at within in
    let is_x : local_id ≡ id_of (distinct (of_shard shard (shard x) keys)) x = is ∙ ap (λ t. id_of (distinct (of_shard shard t keys)) x) at in
    subst (λ t. AreOrdered shard keys (distinct (take (i + 1) keys)) count (order_after order ids t local_id)) (sym at)
    (subst (λ xs. AreOrdered shard keys (distinct xs) count (order_after order ids (shard x) local_id)) (sym (take_more keys i [] lt))
    (ordered-one shard keys (take i keys) (drop (i + 1) keys) x ids next local_id count order seam below_x within_x is_x w h))

-- there are as many locations as key numbers
pub next-ordered : (order : List KeyLocation) (ids : List (List ℕ)) (s local_id : ℕ) → length (order_after order ids s local_id) ≡ next_after (get_or ids s []) local_id (length order)
next-ordered order ids s local_id =
    elim (cases_Bool (is_first (get_or ids s []) local_id)) [
      | inl e ↦ rw e (length-append order ((record { shard = s; number = local_id }) ∷ []))
      | inr e ↦ rw e refl
    ]
