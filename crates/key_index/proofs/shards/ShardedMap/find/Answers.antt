use Rattle.std.proofs.Common.{◌≡◌, ◌∙◌, ◌<◌, [], false, get_or, length, map, vec_items, ap, sym, arith, rules, subst}
use Rattle.std.proofs.lemmas.List.{get_or-map, get_or_read, length-map}
use Rattle.key_index.specs.Keys.{IsIdOf, id_of, is_interned}
use Rattle.key_index.specs.Private.Sharded.{key_at_location, of_shard, shard_of}
use Rattle.key_index.proofs.InShards.{id-in_shard, interned-in_shard}
use Rattle.key_index.proofs.shards.ShardedMap.find.Goals as goal

pub returns-in_default-clause-absent : goal.returns-in_default-clause-absent
returns-in_default-clause-absent c =
    let key = c.args.key.now in
    let hasher = c.self.inside.hasher in
    let tables = c.self.inside.tables.items in
    let keys = map (key_at_location tables) c.self.inside.order.items in
    let shard = c.shard_of-shard.result in
    let at : shard ≡ shard_of hasher key = c.shard_of-shard.ensures.shard in
    let some : 0 < length c.self.inside.order.items = search rules in
    let below : shard < length tables = omega (arith, c.shard_of-shard.ensures.bound, c.self.invariant.a_table_each some) in
    let unknown : is_interned (get_or tables shard []) key ≡ false = search rules in
    ap (λ ks. is_interned ks key) (sym c.self.view_is) ∙ sym (interned-in_shard (shard_of hasher) shard keys (get_or tables shard []) key at (c.self.invariant.keys_of shard below)) ∙ unknown

pub returns-clause-found : goal.returns-clause-found
returns-clause-found c =
    let key = c.args.key.now in
    let hasher = c.self.inside.hasher in
    let tables = c.self.inside.tables.items in
    let ids = c.self.inside.ids.items in
    let keys = map (key_at_location tables) c.self.inside.order.items in
    let shard = c.shard_of-shard.result in
    let at : shard ≡ shard_of hasher key = c.shard_of-shard.ensures.shard in
    let some : 0 < length c.self.inside.order.items = search rules in
    let below : shard < length tables = omega (arith, c.shard_of-shard.ensures.bound, c.self.invariant.a_table_each some) in
    let below_ids : shard < length (map vec_items ids) = omega (arith, c.shard_of-shard.ensures.bound, c.self.invariant.ids_each some) in
    let found : IsIdOf (get_or tables shard []) key c.in-Some.local_id = rw c.in-Some.is at c.in_ok-local_id.ensures.found in
    let id = id-in_shard (shard_of hasher) shard keys (get_or tables shard []) (get_or (map vec_items ids) shard []) key c.in-Some.local_id at
    (c.self.invariant.keys_of shard below) (c.self.invariant.ids_of shard below_ids) found in
    let long = ap length (c.self.invariant.ids_of shard below_ids) ∙ length-map (of_shard (shard_of hasher) shard keys) (id_of keys) in
    let row : get_or (map vec_items ids) shard [] ≡ c.index.result.now.items = get_or-map vec_items ids shard c.index.result.now [] (omega (arith, below_ids, length-map ids vec_items)) ∙ ap vec_items (sym c.index.ensures) in
    let within : c.in-Some.local_id < length c.index.result.now.items = omega (arith, found.1, ap length (c.self.invariant.keys_of shard below), long, ap length row) in
    let own = get_or_read c.index.result.now.items c.in-Some.local_id c.index-2.result.now within c.index-2.ensures 0 in
    let read : get_or (get_or (map vec_items ids) shard []) c.in-Some.local_id 0 ≡ c.index-2.result.now = ap (λ ns. get_or ns c.in-Some.local_id 0) row ∙ sym own in
    subst (λ ks. IsIdOf ks key c.index-2.result.now) c.self.view_is (subst (λ n. IsIdOf keys key n) read id)
