use Rattle.std.proofs.Common.{◌≡◌, ◌<◌, ◌∙◌, [], rules, get_or, length, map, vec_items, vec_len, ap, sym}
use Rattle.std.specs.Prelude.{slice_set}
use Rattle.std.proofs.lemmas.List.{get_or-map, map-set}
use Rattle.key_index.specs.Private.Sharded.{with_first}
use Rattle.key_index.proofs.interning.assign_id.Goals as goal

pub returns-in_ok-push-clause-ids : goal.returns-in_ok-push-clause-ids
returns-in_ok-push-clause-ids c =
    let ids = c.args.ids.now.items in
    let shard = c.args.shard in
    let lt : shard < length ids = search rules in
    let old = get_or-map vec_items ids shard c.index_mut-of_shard.result.now [] lt ∙ ap vec_items (sym c.index_mut-of_shard.ensures.value) in
    let next : c.len-next.result ≡ vec_len c.args.order.now = search rules in
    map-set vec_items ids shard c.push_first.new.ids
    ∙ ap (slice_set (map vec_items ids) shard)
    (c.in_ok-push_first.ensures.ids ∙ ap (λ numbers. with_first numbers c.args.local_id c.len-next.result) (sym old) ∙ ap (with_first (get_or (map vec_items ids) shard []) c.args.local_id) next)

pub returns-else-branch-clause-ids : goal.returns-else-branch-clause-ids
returns-else-branch-clause-ids c =
    let ids = c.args.ids.now.items in
    let shard = c.args.shard in
    let lt : shard < length ids = search rules in
    let old = get_or-map vec_items ids shard c.index_mut-of_shard.result.now [] lt ∙ ap vec_items (sym c.index_mut-of_shard.ensures.value) in
    let next : c.len-next.result ≡ vec_len c.args.order.now = search rules in
    map-set vec_items ids shard c.push_first.new.ids
    ∙ ap (slice_set (map vec_items ids) shard)
    (c.in_ok-push_first.ensures.ids ∙ ap (λ numbers. with_first numbers c.args.local_id c.len-next.result) (sym old) ∙ ap (with_first (get_or (map vec_items ids) shard []) c.args.local_id) next)
