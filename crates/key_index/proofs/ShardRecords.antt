-- The records of a shard, interned one after another.
use Rattle.std.proofs.Common.{◌≡◌, ◌≢◌, ◌∙◌, ◌+◌, ◌<◌, ◌≤◌, ℕ, zero, suc, Bool, true, false, List, [], ◌∷◌, ◌++◌, Bor, length, map, take, drop, get_or, replicate, sym, ap, refl, subst, arith, inl, inr, length-append, get_or-set_same, get_or-set_other}
use Rattle.std.specs.Prelude.{if◌then◌else◌, ◌==◌, filter, slice_set}
use Rattle.std.proofs.Math.ListN.{length-set}
use Rattle.std.proofs.Math.Seq.{get_or-append_seam}
use Rattle.std.specs.List.{fold}
use Rattle.key_index.specs.declared.key_hash.KeyHash.{KeyHash}
use Rattle.std.proofs.lemmas.Bool.{cases_eq, eq-eqb, ne_eqb}
use Rattle.std.proofs.lemmas.List.{append-nil, get_or-map, length-map, length-replicate, take-append-drop, drop_more, take_more, length-take}
use Rattle.std.proofs.lemmas.List.Elements.{filter-append}
use Rattle.key_index.specs.Keys.{Key, distinct, id_of, lent, with_key}
use Rattle.key_index.specs.Private.Sharded.{AreSeenCounts, of_shard, shard_of}
use Rattle.key_index.specs.declared.shards.TheConstants.{SHARDS}
use Rattle.key_index.proofs.Growth.{grows}

-- what is interned of a shard after the first records
pub record IsInternedUpTo (shard : Key → ℕ) (s : ℕ) (keys done : List Key) (table : List Key) (local_ids : List ℕ) : Type 0 where
  pub keys_of : table ≡ distinct (of_shard shard s done)
  pub local_ids_of : local_ids ≡ map (id_of (distinct (of_shard shard s keys))) (of_shard shard s done)

pub numbered-none : (shard : Key → ℕ) (s : ℕ) (keys : List Key) → IsInternedUpTo shard s keys [] [] []
unfolding distinct
numbered-none shard s keys = record { keys_of = refl; local_ids_of = refl }

pub shard-other : (shard : Key → ℕ) (s : ℕ) (keys : List Key) (i : ℕ) → i < length keys → shard (get_or keys i []) ≢ s → of_shard shard s (take (i + 1) keys) ≡ of_shard shard s (take i keys)
shard-other shard s keys i lt ne =
    let test : (shard (get_or keys i []) == s) ≡ false = ne_eqb (shard (get_or keys i [])) s ne in
    let none : of_shard shard s (get_or keys i [] ∷ []) ≡ [] = rw test refl in
    ap (of_shard shard s) (take_more keys i [] lt) ∙ filter-append (λ k. shard k == s) (take i keys) (get_or keys i [] ∷ [])
    ∙ ap (λ ks. of_shard shard s (take i keys) ++ ks) none ∙ append-nil (of_shard shard s (take i keys))

pub shard-own : (shard : Key → ℕ) (s : ℕ) (keys : List Key) (i : ℕ) → i < length keys → shard (get_or keys i []) ≡ s → of_shard shard s (take (i + 1) keys) ≡ of_shard shard s (take i keys) ++ get_or keys i [] ∷ []
shard-own shard s keys i lt is =
    let test : (shard (get_or keys i []) == s) ≡ true = eq-eqb (shard (get_or keys i [])) s is in
    let one : of_shard shard s (get_or keys i [] ∷ []) ≡ get_or keys i [] ∷ [] = rw test refl in
    ap (of_shard shard s) (take_more keys i [] lt) ∙ filter-append (λ k. shard k == s) (take i keys) (get_or keys i [] ∷ [])
    ∙ ap (λ ks. of_shard shard s (take i keys) ++ ks) one

pub shard-parted : (shard : Key → ℕ) (s : ℕ) (keys : List Key) (i : ℕ) → i < length keys → shard (get_or keys i []) ≡ s
    → of_shard shard s keys ≡ of_shard shard s (take i keys) ++ get_or keys i [] ∷ of_shard shard s (drop (i + 1) keys)
shard-parted shard s keys i lt is =
    let test : (shard (get_or keys i []) == s) ≡ true = eq-eqb (shard (get_or keys i [])) s is in
    let seam : keys ≡ take i keys ++ get_or keys i [] ∷ drop (i + 1) keys = sym (take-append-drop i keys) ∙ ap (λ ks. take i keys ++ ks) (drop_more keys i [] lt) in
    let ends : of_shard shard s (get_or keys i [] ∷ drop (i + 1) keys) ≡ get_or keys i [] ∷ of_shard shard s (drop (i + 1) keys) = rw test refl in
    ap (of_shard shard s) seam ∙ filter-append (λ k. shard k == s) (take i keys) (get_or keys i [] ∷ drop (i + 1) keys)
    ∙ ap (λ ks. of_shard shard s (take i keys) ++ ks) ends

pub few-added : (ks zs : List Key) → length (fold with_key ks zs) ≤ length ks + length zs
few-added ks [] = omega arith
few-added ks (z ∷ zs) = omega (arith, (grows ks z).by_one, few-added (with_key ks z) zs)

pub few-distinct : (keys : List Key) → length (distinct keys) ≤ length keys
unfolding distinct
few-distinct keys = let few = few-added [] keys in omega (arith, few)

filtered-at : (b : Bool) (x : Key) (xs ys : List Key) → length xs ≤ length ys → length (if b then x ∷ xs else xs) ≤ length (x ∷ ys)
filtered-at true x xs ys le = omega arith
filtered-at false x xs ys le = omega arith

pub few-filtered : (p : Key → Bool) (keys : List Key) → length (filter p keys) ≤ length keys
few-filtered p [] = omega arith
few-filtered p (x ∷ keys) = filtered-at (p x) x (filter p keys) keys (few-filtered p keys)

pub seen_counts-none : (shard : Key → ℕ) (count : ℕ) (keys : List Key) → AreSeenCounts shard count keys 0 (replicate count 0)
seen_counts-none shard count keys = record { each = length-replicate count 0; seen_counts = λ s lt. zero-at count s }
  where
    zero-at : (n s : ℕ) → get_or {A = ℕ} (replicate n 0) s 0 ≡ 0
    zero-at zero s = refl
    zero-at (suc n) zero = refl
    zero-at (suc n) (suc s) = zero-at n s

-- the number of a record in its shard follows those of the records seen before
pub next-local_id : (shard : Key → ℕ) (count : ℕ) (keys : List Key) (i : ℕ) (seen local_ids : List ℕ) (s : ℕ) → i < length keys → s ≡ shard (get_or keys i []) → s < count
    → local_ids ≡ map (id_of (distinct (of_shard shard s keys))) (of_shard shard s keys) → AreSeenCounts shard count keys i seen
    → (get_or seen s 0 < length local_ids) × (get_or local_ids (get_or seen s 0) 0 ≡ id_of (distinct (of_shard shard s keys)) (get_or keys i []))
next-local_id shard count keys i seen local_ids s lt at below are so =
    let x = get_or keys i [] in
    let xs = of_shard shard s (take i keys) in
    let ys = of_shard shard s (drop (i + 1) keys) in
    let f = id_of (distinct (of_shard shard s keys)) in
    let parted : of_shard shard s keys ≡ xs ++ x ∷ ys = shard-parted shard s keys i lt (sym at) in
    let long : length local_ids ≡ length xs + length (x ∷ ys) = ap length are ∙ length-map (of_shard shard s keys) f ∙ ap length parted ∙ length-append xs (x ∷ ys) in
    let here : get_or seen s 0 ≡ length xs = so.seen_counts s below in
    let within : get_or seen s 0 < length local_ids = omega (arith, long, here) in
    let within_all : get_or seen s 0 < length (of_shard shard s keys) = omega (arith, within, ap length are, length-map (of_shard shard s keys) f) in (
      within,
      ap (λ ls. get_or ls (get_or seen s 0) 0) are ∙ get_or-map f (of_shard shard s keys) (get_or seen s 0) [] 0 within_all
          ∙ ap f (ap (λ ks. get_or ks (get_or seen s 0) []) parted ∙ ap (λ n. get_or (xs ++ x ∷ ys) n []) here ∙ get_or-append_seam xs x ys []),
    )

pub seen_counts-more : (shard : Key → ℕ) (count : ℕ) (keys : List Key) (i : ℕ) (seen : List ℕ) (s : ℕ) → i < length keys → s ≡ shard (get_or keys i []) → s < count → AreSeenCounts shard count keys i seen
    → AreSeenCounts shard count keys (i + 1) (slice_set seen s (get_or seen s 0 + 1))
seen_counts-more shard count keys i seen s lt at below so =
    let x = get_or keys i [] in record {
      each = length-set seen s (get_or seen s 0 + 1) ∙ so.each;
      seen_counts = λ t t_in. elim (cases_eq s t) [
        | inl same ↦
            let own = shard-own shard s keys i lt (sym at) in
            let more : length (of_shard shard s (take (i + 1) keys)) ≡ length (of_shard shard s (take i keys)) + 1 = ap length own ∙ length-append (of_shard shard s (take i keys)) (x ∷ []) in
            let set : get_or (slice_set seen s (get_or seen s 0 + 1)) s 0 ≡ get_or seen s 0 + 1 = get_or-set_same seen s (get_or seen s 0 + 1) 0 (omega (arith, below, so.each)) in
            subst (λ u. get_or (slice_set seen s (get_or seen s 0 + 1)) u 0 ≡ length (of_shard shard u (take (i + 1) keys))) same
            (omega (arith, more, set, so.seen_counts s below))
        | inr ne ↦
            let other = shard-other shard t keys i lt (λ e. ne (at ∙ e)) in
            get_or-set_other seen s t (get_or seen s 0 + 1) 0 (λ e. ne (sym e)) ∙ so.seen_counts t t_in ∙ ap length (sym other)
      ];
    }

pub seen_counts-few : (shard : Key → ℕ) (count : ℕ) (keys : List Key) (i : ℕ) (seen : List ℕ) (s : ℕ) → s < count → i ≤ length keys → AreSeenCounts shard count keys i seen → get_or seen s 0 ≤ i
seen_counts-few shard count keys i seen s below le so =
    omega (arith, so.seen_counts s below, few-filtered (λ k. shard k == s) (take i keys), length-take i keys, le)

pub shards-long : (shard : Key → ℕ) (keys : List Key) (shards : List ℕ) → shards ≡ map shard keys → length shards ≡ length keys
shards-long shard keys shards are = ap length are ∙ length-map keys shard

pub shard-at : (shard : Key → ℕ) (keys : List Key) (shards : List ℕ) (i : ℕ) → shards ≡ map shard keys → i < length keys → get_or shards i 0 ≡ shard (get_or keys i [])
shard-at shard keys shards i are lt = ap (λ ss. get_or ss i 0) are ∙ get_or-map shard keys i [] 0 lt

pub shard_of-below : (hasher : KeyHash) (key : Key) → shard_of hasher key < SHARDS
unfolding shard_of
shard_of-below hasher key = omega arith

pub shard-below : (hasher : KeyHash) (keys : List Key) (shards : List ℕ) (i : ℕ) → shards ≡ map (shard_of hasher) keys → i < length keys → get_or shards i 0 < SHARDS
shard-below hasher keys shards i are lt =
    let below = shard_of-below hasher (get_or keys i []) in
    let at = shard-at (shard_of hasher) keys shards i are lt in
    rw at below

pub lent-key : (keys : List (Bor (List ℕ))) (i : ℕ) (d : Bor (List ℕ)) → i < length keys → get_or (lent keys) i [] ≡ (get_or keys i d).now
lent-key keys i d lt = get_or-map (λ (key : Bor (List ℕ)). key.now) keys i d [] lt

pub lent-long : (keys : List (Bor (List ℕ))) → length (lent keys) ≡ length keys
lent-long keys = length-map keys (λ (key : Bor (List ℕ)). key.now)
