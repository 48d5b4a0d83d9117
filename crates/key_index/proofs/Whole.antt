-- Shards whose key numbers were assigned record by record.
use Rattle.std.proofs.Common.{◌≡◌, ◌∙◌, ◌<◌, ◌≤◌, ℕ, List, [], ◌∷◌, length, map, get_or, sym, ap, refl, subst, arith}
use Rattle.std.specs.Prelude.{◌==◌, All}
use Rattle.std.proofs.lemmas.List.{length-map}
use Rattle.std.proofs.lemmas.List.Elements.{All-head, All-tail}
use Rattle.lane_words.specs.declared.limits.TheConstants.{MOST_RECORDS}
use Rattle.key_index.specs.Keys.{Key, distinct, id_of, key_at}
use Rattle.key_index.specs.Private.Sharded.{AreGlobal, AreOrdered, AreShards, AreTables, key_at_location, of_shard}
use Rattle.key_index.specs.declared.shards.TheConstants.{SHARDS}
use Rattle.key_index.specs.declared.shards.KeyLocation.{KeyLocation}
use Rattle.key_index.proofs.Filtered.{filter-distinct}
use Rattle.key_index.proofs.ShardRecords.{few-distinct}

map-agree : {X Y : Type 0} (P : X → Type 0) (f g : X → Y) (xs : List X) → ((x : X) → P x → f x ≡ g x) → All P xs → map f xs ≡ map g xs
map-agree P f g [] same all = refl
map-agree P f g (x ∷ xs) same all =
    let first : f x ≡ g x = same x (All-head P x xs all) in
    rw first (ap (λ ys. g x ∷ ys) (map-agree P f g xs same (All-tail P x xs all)))

-- the keys of the shards are the distinct keys of the records
pub whole-keys : (shard : Key → ℕ) (keys : List Key) (tables : List (List Key)) (order : List KeyLocation) → AreTables shard SHARDS keys tables → AreOrdered shard keys (distinct keys) SHARDS order → map (key_at_location tables) order ≡ distinct keys
whole-keys shard keys tables order t o =
    map-agree (λ (at : KeyLocation). (at.shard < SHARDS) × (at.number < length (distinct (of_shard shard at.shard keys)))) (key_at_location tables)
    (λ (at : KeyLocation). key_at (distinct (of_shard shard at.shard keys)) at.number) order (λ at there. ap (λ ks. key_at ks at.number) (t.are at.shard there.0)) o.there
    ∙ o.named

pub whole-shards : (shard : Key → ℕ) (keys : List Key) (tables : List (List Key)) (ids : List (List ℕ)) (order : List KeyLocation) → length keys ≤ MOST_RECORDS → AreTables shard SHARDS keys tables → length ids ≡ SHARDS → AreGlobal shard keys ids
    → AreOrdered shard keys (distinct keys) SHARDS order → AreShards shard (map (key_at_location tables) order) tables ids order
whole-shards shard keys tables ids order few t each are o =
    let named = whole-keys shard keys tables order t o in
    let long : length order ≡ length (distinct keys) = sym (length-map order (key_at_location tables)) ∙ ap length named in
    subst (λ ks. AreShards shard ks tables ids order) (sym named) (record {
      few = omega (arith, long, few-distinct keys, few);
      a_table_each = λ some. t.each;
      ids_each = λ some. each;
      keys_of = λ s lt. t.are s (rw (← t.each) lt) ∙ sym (filter-distinct (λ k. shard k == s) keys);
      ids_of = λ s lt. are s lt ∙ ap (map (id_of (distinct keys))) (sym (filter-distinct (λ k. shard k == s) keys));
      there = λ i d lt.
          let at = get_or order i d in
          let there = o.there i d lt in
          let own = t.are at.shard there.0 in
          (rw t.each there.0, rw own there.1);
    })
