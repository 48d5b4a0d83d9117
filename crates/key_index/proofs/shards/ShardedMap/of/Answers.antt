use Rattle.std.proofs.Common.{◌≡◌, ◌∙◌, ◌≤◌, rules, length, map, vec_items, vec_len}
use Rattle.std.proofs.lemmas.List.{length-map}
use Rattle.lane_words.specs.declared.limits.TheConstants.{MOST_RECORDS}
use Rattle.key_index.specs.Keys.{lent_lists}
use Rattle.key_index.specs.Private.Sharded.{shard_of}
use Rattle.key_index.proofs.Whole.{whole-keys, whole-shards}
use Rattle.key_index.proofs.shards.ShardedMap.of.Goals as goal

pub invariant_of-keys : goal.invariant_of-keys
invariant_of-keys g c =
    let keys = lent_lists c.args.lists.now in
    let numbered = c.in_ok-numbered.ensures in
    let ids = c.in_ok-numbered.numbered.ids.items in
    let counted : length ids ≡ vec_len c.in_ok-numbered.numbered.ids = search rules in
    let few : length keys ≤ MOST_RECORDS = c.requires.bound in
    whole-shards (shard_of c.args.hasher) keys c.in_ok-numbered.numbered.tables.items (map vec_items ids) c.in_ok-numbered.numbered.order.items few numbered.tables (length-map ids vec_items ∙ counted ∙ numbered.len)
    numbered.ids numbered.order

pub returns-clause-value : goal.returns-clause-value
returns-clause-value g c =
    let numbered = c.in_ok-numbered.ensures in
    record {
      keys = whole-keys (shard_of c.args.hasher) (lent_lists c.args.lists.now) c.in_ok-numbered.numbered.tables.items c.in_ok-numbered.numbered.order.items numbered.tables numbered.order;
      ids = numbered.numbers;
    }
