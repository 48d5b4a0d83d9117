-- Keys looked up in their shards.
use Rattle.std.proofs.Common.{◌≡◌, ◌∙◌, ℕ, Bool, true, List, [], map, get_or, sym, ap}
use Rattle.std.specs.Prelude.{◌==◌}
use Rattle.std.proofs.lemmas.Bool.{eq-eqb}
use Rattle.std.proofs.lemmas.List.{get_or-map}
use Rattle.key_index.specs.Keys.{IsIdOf, Key, id_of, is_interned}
use Rattle.key_index.specs.Private.Sharded.{of_shard}
use Rattle.key_index.proofs.Filtered.{interned-filter}
use Rattle.key_index.proofs.Growth.{interned}

-- a key is interned if and only if it is interned in its shard
pub interned-in_shard : (shard : Key → ℕ) (s : ℕ) (keys table : List Key) (key : Key) → s ≡ shard key → table ≡ of_shard shard s keys → is_interned table key ≡ is_interned keys key
interned-in_shard shard s keys table key at is =
    let goes : Key → Bool = λ k. shard k == s in
    ap (λ ks. is_interned ks key) is ∙ interned-filter goes key (eq-eqb (shard key) s (sym at)) keys

-- its key number is stored at its number in the shard
pub id-in_shard : (shard : Key → ℕ) (s : ℕ) (keys table : List Key) (ids : List ℕ) (key : Key) (local_id : ℕ) → s ≡ shard key → table ≡ of_shard shard s keys → ids ≡ map (id_of keys) (of_shard shard s keys)
    → IsIdOf table key local_id → IsIdOf keys key (get_or ids local_id 0)
id-in_shard shard s keys table ids key local_id at is are there =
    let was_interned : is_interned keys key ≡ true = sym (interned-in_shard shard s keys table key at is) ∙ there.2 in
    let own = interned table key there.2 in
    let read : get_or ids local_id 0 ≡ id_of keys key =
    ap (λ ns. get_or ns local_id 0) (are ∙ ap (map (id_of keys)) (sym is)) ∙ get_or-map (id_of keys) table local_id [] 0 there.1
    ∙ ap (λ n. id_of keys (get_or table n [])) there.0 ∙ ap (id_of keys) own.1 in
    (read, rw read (interned keys key was_interned).0, was_interned)
