use Rattle.std.proofs.Common.{◌≡◌, ◌∙◌, ap, ap₂, map, subst, sym, vec_items}
use Rattle.key_index.specs.Keys.{IsWithoutRepeats, distinct}
use Rattle.key_index.specs.Private.Sharded.{key_at_location, shard_of}
use Rattle.key_index.proofs.Copied.{tables-distinct}
use Rattle.key_index.proofs.shards.ShardedMap.copy.Goals as goal

pub invariant_of-result : goal.invariant_of-result
invariant_of-result g c =
    let own = c.self.inside in
    let without_repeats = subst IsWithoutRepeats (sym c.self.view_is) c.requires in
    let tables : c.in_ok-tables.tables.items ≡ own.tables.items =
    c.in_ok-tables.ensures ∙ ap (map distinct) c.as_slice.ensures.value ∙ tables-distinct (shard_of own.hasher) (map (key_at_location own.tables.items) own.order.items) own.tables.items without_repeats c.self.invariant.keys_of in
    let ids : map vec_items c.in_ok-copy_lists.field-0.items ≡ map vec_items own.ids.items = c.in_ok-copy_lists.ensures ∙ ap (map vec_items) c.as_slice-2.ensures.value in
    let order : c.in_ok-from_slice.field-0.items ≡ own.order.items = c.in_ok-from_slice.ensures.items ∙ c.as_slice-3.ensures.value in
    rw (tables, ids, order) c.self.invariant

pub returns : goal.returns
returns g c =
    let own = c.self.inside in
    let without_repeats = subst IsWithoutRepeats (sym c.self.view_is) c.requires in
    let tables : c.in_ok-tables.tables.items ≡ own.tables.items =
    c.in_ok-tables.ensures ∙ ap (map distinct) c.as_slice.ensures.value ∙ tables-distinct (shard_of own.hasher) (map (key_at_location own.tables.items) own.order.items) own.tables.items without_repeats c.self.invariant.keys_of in
    let order : c.in_ok-from_slice.field-0.items ≡ own.order.items = c.in_ok-from_slice.ensures.items ∙ c.as_slice-3.ensures.value in
    ap₂ (λ ts at. map (key_at_location ts) at) tables order ∙ c.self.view_is
