use Rattle.std.proofs.Common.{◌≡◌, ◌<◌, ◌∙◌, ◌∷◌, ◌++◌, [], Bor, Vec, Global, List, arith, ap, ap₂, ◌+◌, get_or, length, map, subst, sym, take}
use Rattle.std.specs.Prelude.{slice_set}
use Rattle.std.proofs.lemmas.Grind.{common_steps}
use Rattle.std.proofs.lemmas.List.{get_or-map, map_more, length-map, map-set}
use Rattle.key_index.specs.Keys.{Key, lent}
use Rattle.key_index.specs.Private.Sharded.{AreRows, shard_of}
use Rattle.key_index.specs.declared.shards.TheConstants.{SHARDS}
use Rattle.key_index.proofs.Scattered.{scattered-more, scattered-none}
use Rattle.key_index.proofs.ShardRecords.{lent-key, lent-long}
use Rattle.key_index.proofs.scattering.scatter.Goals as goal

pub loop-i-init : goal.loop-i-init
loop-i-init c = record {
  shards = c.in_ok-shards.ensures.items;
  rows = subst (λ (rows : List (List Key)). AreRows (shard_of c.args.hasher) SHARDS (take 0 (lent c.args.keys.now)) rows) (sym c.in_ok-rows.ensures) (scattered-none (shard_of c.args.hasher) SHARDS (lent c.args.keys.now));
}

pub loop-i-preserved : goal.loop-i-preserved
loop-i-preserved c =
    let keys = c.args.keys.now in
    let all = lent keys in
    let i = c.loop-i.i in
    let f = shard_of c.args.hasher in
    let rows = c.loop-i.rows.items in
    let keys_of : Vec Key Global → List Key = λ row. row.items in
    let each : List (List Key) = map keys_of rows in
    let s = c.shard_of-shard.result in
    let i_in : i < length all = omega (arith, c.loop-i-test.true, lent-long keys) in
    let none : Bor Key = record { ref_ptr = (0, 0); now = [] } in
    let x : get_or all i [] ≡ (get_or keys i none).now = lent-key keys i none c.loop-i-test.true in
    let at : s ≡ f (get_or all i []) = c.shard_of-shard.ensures.shard ∙ ap f (sym x) in
    let below : s < SHARDS = c.shard_of-shard.ensures.bound in
    let lt : s < length rows = omega (arith, below, c.loop-i.invariant.rows.each, length-map rows keys_of) in
    let own = c.index_mut-row.result.now in
    let old : get_or each s [] ≡ keys_of own = get_or-map keys_of rows s own [] lt ∙ ap keys_of (sym c.index_mut-row.ensures.value) in
    let new : keys_of c.push-in-loop-i.new.self ≡ get_or each s [] ++ get_or all i [] ∷ [] =
    c.in_ok-push-2.ensures.items ∙ ap₂ (λ ks k. ks ++ k ∷ []) (sym old) (c.of.ensures ∙ sym x) in
    let more : map keys_of (slice_set rows s c.push-in-loop-i.new.self) ≡ slice_set each s (get_or each s [] ++ get_or all i [] ∷ []) = map-set keys_of rows s c.push-in-loop-i.new.self ∙ ap (slice_set each s) new in record {
      shards = c.in_ok-push.ensures.items ∙ ap₂ (λ ss n. ss ++ n ∷ []) c.loop-i.invariant.shards at ∙ sym (map_more f all i [] i_in);
      rows = subst (λ (ls : List (List Key)). AreRows f SHARDS (take (i + 1) all) ls) (sym more) (scattered-more f SHARDS all i each s i_in at below c.loop-i.invariant.rows);
    }

pub index_mut-row-requires : goal.index_mut-row-requires
index_mut-row-requires c = grind (arith, common_steps)

pub returns : goal.returns
returns c = grind (arith, common_steps)
