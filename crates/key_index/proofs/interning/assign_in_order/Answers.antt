use Rattle.std.proofs.Common.{◌≡◌, ◌∙◌, ◌<◌, ◌≤◌, ◌+◌, ℕ, List, [], arith, rules, ap, get_or, length, map, sym, subst, take, vec_items, vec_len}
use Rattle.std.specs.Prelude.{slice_set}
use Rattle.std.proofs.lemmas.List.{get_or-map, get_or_read, length-map, length-replicate, length-set, length-take, take_all}
use Rattle.key_index.specs.Keys.{distinct, id_of, lent_lists}
use Rattle.key_index.specs.Private.Sharded.{AreOrdered, next_after, of_shard, order_after, shard_of, with_first}
use Rattle.key_index.specs.declared.shards.KeyLocation.{KeyLocation}
use Rattle.key_index.specs.declared.shards.TheConstants.{SHARDS}
use Rattle.key_index.proofs.Ordered.{next-ordered, ordered-more, ordered-none}
use Rattle.key_index.proofs.ShardRecords.{few-distinct, next-local_id, seen_counts-few, seen_counts-more, seen_counts-none, shard-at, shard-below, shards-long}
use Rattle.key_index.proofs.Assigned.{AreAssigned, assigned-all, assigned-more, assigned-none}
use Rattle.key_index.proofs.interning.assign_in_order.Goals as goal

pub loop-i-init : goal.loop-i-init
loop-i-init c =
    let all = lent_lists c.args.records.now.lists.now in
    let start : AreAssigned (shard_of c.args.records.now.hasher) all [] (map vec_items c.in_ok-ids.ids.items) 0 =
    subst (λ (ids : List (List ℕ)). AreAssigned (shard_of c.args.records.now.hasher) all [] ids 0) (sym c.in_ok-ids.ensures) (assigned-none (shard_of c.args.records.now.hasher) all SHARDS) in
    let none : List ℕ = [] in record {
      len = sym (length-map c.in_ok-ids.ids.items vec_items) ∙ ap length c.in_ok-ids.ensures ∙ length-replicate SHARDS none;
      seen_counts = seen_counts-none (shard_of c.args.records.now.hasher) SHARDS all;
      assigned = rw c.in_ok-order.ensures.items start;
      ordered = rw c.in_ok-order.ensures.items (ordered-none (shard_of c.args.records.now.hasher) all SHARDS);
    }

pub bounds-local_ids-shard : goal.bounds-local_ids-shard
bounds-local_ids-shard c =
    let all = lent_lists c.args.records.now.lists.now in
    let i_in : c.loop-i.i < length all = omega (arith, c.loop-i-test.true, shards-long (shard_of c.args.records.now.hasher) all c.args.records.now.shards.now c.requires.shards) in
    omega (arith, shard-below c.args.records.now.hasher all c.args.records.now.shards.now c.loop-i.i c.requires.shards i_in, c.requires.local_ids.each, length-map c.args.records.now.local_ids.now vec_items)

pub bounds-seen-shard : goal.bounds-seen-shard
bounds-seen-shard c =
    let all = lent_lists c.args.records.now.lists.now in
    let i_in : c.loop-i.i < length all = omega (arith, c.loop-i-test.true, shards-long (shard_of c.args.records.now.hasher) all c.args.records.now.shards.now c.requires.shards) in
    omega (arith, shard-below c.args.records.now.hasher all c.args.records.now.shards.now c.loop-i.i c.requires.shards i_in)

pub bounds-seen-shard-in-loop-i : goal.bounds-seen-shard-in-loop-i
bounds-seen-shard-in-loop-i c =
    let all = lent_lists c.args.records.now.lists.now in
    let i_in : c.loop-i.i < length all = omega (arith, c.loop-i-test.true, shards-long (shard_of c.args.records.now.hasher) all c.args.records.now.shards.now c.requires.shards) in
    omega (arith, shard-below c.args.records.now.hasher all c.args.records.now.shards.now c.loop-i.i c.requires.shards i_in)

pub bounds-seen-shard-in-loop-i-2 : goal.bounds-seen-shard-in-loop-i-2
bounds-seen-shard-in-loop-i-2 c =
    let all = lent_lists c.args.records.now.lists.now in
    let i_in : c.loop-i.i < length all = omega (arith, c.loop-i-test.true, shards-long (shard_of c.args.records.now.hasher) all c.args.records.now.shards.now c.requires.shards) in
    omega (arith, shard-below c.args.records.now.hasher all c.args.records.now.shards.now c.loop-i.i c.requires.shards i_in)

pub index-local_id-requires : goal.index-local_id-requires
index-local_id-requires c =
    let all = lent_lists c.args.records.now.lists.now in
    let shards = c.args.records.now.shards.now in
    let local_ids = c.args.records.now.local_ids.now in
    let i = c.loop-i.i in
    let shard = get_or shards i 0 in
    let i_in : i < length all = omega (arith, c.loop-i-test.true, shards-long (shard_of c.args.records.now.hasher) all c.args.records.now.shards.now c.requires.shards) in
    let below : shard < SHARDS = shard-below c.args.records.now.hasher all shards i c.requires.shards i_in in
    let in_local_ids : shard < length local_ids = omega (arith, below, c.requires.local_ids.each, length-map local_ids vec_items) in
    let next = next-local_id (shard_of c.args.records.now.hasher) SHARDS all i c.loop-i.seen (get_or (map vec_items local_ids) shard []) shard i_in (shard-at (shard_of c.args.records.now.hasher) all shards i c.requires.shards i_in) below
    (c.requires.local_ids.are shard below) c.loop-i.invariant.seen_counts in
    let row = get_or-map vec_items local_ids shard c.index-local_ids-shard.result [] in_local_ids ∙ ap vec_items (sym c.index-local_ids-shard.is) in
    let counted : vec_len c.index-local_ids-shard.result ≡ length c.index-local_ids-shard.result.items = search rules in
    omega (arith, next.0, ap length row, counted)

pub overflow_add-seen : goal.overflow_add-seen
overflow_add-seen c =
    let all = lent_lists c.args.records.now.lists.now in
    let i = c.loop-i.i in
    let i_in : i < length all = omega (arith, c.loop-i-test.true, shards-long (shard_of c.args.records.now.hasher) all c.args.records.now.shards.now c.requires.shards) in
    let i_le : i ≤ length all = omega (arith, i_in) in
    let shard = get_or c.args.records.now.shards.now i 0 in
    let below : shard < SHARDS = shard-below c.args.records.now.hasher all c.args.records.now.shards.now i c.requires.shards i_in in
    omega (arith, seen_counts-few (shard_of c.args.records.now.hasher) SHARDS all i c.loop-i.seen shard below i_le c.loop-i.invariant.seen_counts, c.loop-i-test.true)

pub assign_id-requires-clause-capacity : goal.assign_id-requires-clause-capacity
assign_id-requires-clause-capacity c =
    let all = lent_lists c.args.records.now.lists.now in
    omega (arith, c.loop-i.invariant.assigned.counted, few-distinct (take c.loop-i.i all), length-take c.loop-i.i all, c.loop-i-test.true, c.requires.bound, shards-long (shard_of c.args.records.now.hasher) all c.args.records.now.shards.now c.requires.shards)

pub assign_id-requires-clause-shard : goal.assign_id-requires-clause-shard
assign_id-requires-clause-shard c =
    let all = lent_lists c.args.records.now.lists.now in
    let i_in : c.loop-i.i < length all = omega (arith, c.loop-i-test.true, shards-long (shard_of c.args.records.now.hasher) all c.args.records.now.shards.now c.requires.shards) in
    omega (arith, shard-below c.args.records.now.hasher all c.args.records.now.shards.now c.loop-i.i c.requires.shards i_in, c.loop-i.invariant.len)

pub loop-i-preserved : goal.loop-i-preserved
loop-i-preserved c =
    let hasher = c.args.records.now.hasher in
    let all = lent_lists c.args.records.now.lists.now in
    let i = c.loop-i.i in
    let shards = c.args.records.now.shards.now in
    let local_ids = c.args.records.now.local_ids.now in
    let ids : List (List ℕ) = map vec_items c.loop-i.ids.items in
    let order = c.loop-i.order.items in
    let seen = c.loop-i.seen in
    let inv = c.loop-i.invariant in
    let shard = get_or shards i 0 in
    let local_id = c.index-local_id.result.now in
    let old = get_or ids shard [] in
    let i_in : i < length all = omega (arith, c.loop-i-test.true, shards-long (shard_of c.args.records.now.hasher) all c.args.records.now.shards.now c.requires.shards) in
    let within : shard < SHARDS = shard-below hasher all shards i c.requires.shards i_in in
    let at = shard-at (shard_of hasher) all shards i c.requires.shards i_in in
    let long : length ids ≡ SHARDS = length-map c.loop-i.ids.items vec_items ∙ inv.len in
    let below : shard < length ids = rw long within in
    let in_local_ids : shard < length local_ids = omega (arith, within, c.requires.local_ids.each, length-map local_ids vec_items) in
    let next_is = next-local_id (shard_of hasher) SHARDS all i seen (get_or (map vec_items local_ids) shard []) shard i_in at within (c.requires.local_ids.are shard within) inv.seen_counts in
    let row = get_or-map vec_items local_ids shard c.index-local_ids-shard.result [] in_local_ids ∙ ap vec_items (sym c.index-local_ids-shard.is) in
    let seen_in : get_or seen shard 0 < length c.index-local_ids-shard.result.items = omega (arith, next_is.0, ap length row) in
    let read = get_or_read c.index-local_ids-shard.result.items (get_or seen shard 0) local_id seen_in c.index-local_id.ensures 0 in
    let local_id_is : local_id ≡ id_of (distinct (of_shard (shard_of hasher) shard all)) (get_or all i []) = read ∙ ap (λ ns. get_or ns (get_or seen shard 0) 0) (sym row) ∙ next_is.1 in
    let counted : vec_len c.loop-i.order ≡ length order = search rules in
    let filled : map vec_items c.assign_id.new.ids.items ≡ slice_set ids shard (with_first old local_id (length order)) =
    c.in_ok-assign_id.ensures.ids ∙ ap (λ n. slice_set ids shard (with_first old local_id n)) counted in
    let stands : c.assign_id.new.order.items ≡ order_after order ids shard local_id = c.in_ok-assign_id.ensures.order in
    let next : length c.assign_id.new.order.items ≡ next_after old local_id (length order) = ap length stands ∙ next-ordered order ids shard local_id in
    record {
      len = sym (length-map c.assign_id.new.ids.items vec_items) ∙ ap length filled ∙ length-set ids shard (with_first old local_id (length order)) ∙ long;
      seen_counts = seen_counts-more (shard_of hasher) SHARDS all i seen shard i_in at within inv.seen_counts;
      assigned = subst (λ (gs : List (List ℕ)). AreAssigned (shard_of hasher) all (take (i + 1) all) gs (length c.assign_id.new.order.items)) (sym filled)
          (subst (λ (n : ℕ). AreAssigned (shard_of hasher) all (take (i + 1) all) (slice_set ids shard (with_first old local_id (length order))) n) (sym next)
          (assigned-more (shard_of hasher) all i shard local_id ids (length order) i_in at below local_id_is inv.assigned));
      ordered = subst (λ (o : List KeyLocation). AreOrdered (shard_of hasher) all (distinct (take (i + 1) all)) SHARDS o) (sym stands)
          (ordered-more (shard_of hasher) all i shard local_id ids (length order) SHARDS order i_in at below within local_id_is inv.assigned inv.ordered);
    }

pub returns-clause-ids : goal.returns-clause-ids
returns-clause-ids c =
    let all = lent_lists c.args.records.now.lists.now in
    let done : length all ≤ c.loop-i.i = omega (arith, c.loop-i-test.false, shards-long (shard_of c.args.records.now.hasher) all c.args.records.now.shards.now c.requires.shards) in
    assigned-all (shard_of c.args.records.now.hasher) all c.loop-i.i (map vec_items c.loop-i.ids.items) (length c.loop-i.order.items) done c.loop-i.invariant.assigned

pub returns-clause-order : goal.returns-clause-order
returns-clause-order c =
    let all = lent_lists c.args.records.now.lists.now in
    let whole : take c.loop-i.i all ≡ all = take_all c.loop-i.i all (omega (arith, c.loop-i-test.false, shards-long (shard_of c.args.records.now.hasher) all c.args.records.now.shards.now c.requires.shards)) in
    subst (λ ks. AreOrdered (shard_of c.args.records.now.hasher) all (distinct ks) SHARDS c.loop-i.order.items) whole c.loop-i.invariant.ordered
