use Rattle.std.proofs.Common.{◌≡◌, ◌<◌, ◌≤◌, ◌+◌, ◌∙◌, [], arith, rules, ap, get_or, length, map, subst, sym, vec_items, vec_len}
use Rattle.std.specs.Prelude.{slice_set}
use Rattle.std.proofs.lemmas.List.{get_or-map, get_or_read, length-map}
use Rattle.key_index.specs.Keys.{distinct, id_of, lent_lists}
use Rattle.key_index.specs.Private.Sharded.{AreSeenCounts, shard_of}
use Rattle.key_index.specs.declared.shards.TheConstants.{SHARDS}
use Rattle.key_index.proofs.ReadBack.{from-more, read-record}
use Rattle.key_index.proofs.ShardRecords.{seen_counts-few, seen_counts-more, shard-at, shard-below, shards-long}
use Rattle.key_index.proofs.interning.read_numbers.Goals as goal

pub bounds-local_ids-shard : goal.bounds-local_ids-shard
bounds-local_ids-shard c =
    let all = lent_lists c.args.records.now.lists.now in
    let i = c.args.from + c.loop-k.k in
    let i_in : i < length all = omega (arith, c.loop-k-test.true, c.requires.range) in
    omega (arith, shard-below c.args.records.now.hasher all c.args.records.now.shards.now i c.requires.valid.sharded i_in, c.requires.valid.numbered.each, length-map c.args.records.now.local_ids.now vec_items)

pub bounds-seen-shard : goal.bounds-seen-shard
bounds-seen-shard c =
    let all = lent_lists c.args.records.now.lists.now in
    let i = c.args.from + c.loop-k.k in
    let i_in : i < length all = omega (arith, c.loop-k-test.true, c.requires.range) in
    shard-below c.args.records.now.hasher all c.args.records.now.shards.now i c.requires.valid.sharded i_in

pub bounds-seen-shard-in-loop-k : goal.bounds-seen-shard-in-loop-k
bounds-seen-shard-in-loop-k c =
    let all = lent_lists c.args.records.now.lists.now in
    let i = c.args.from + c.loop-k.k in
    let i_in : i < length all = omega (arith, c.loop-k-test.true, c.requires.range) in
    shard-below c.args.records.now.hasher all c.args.records.now.shards.now i c.requires.valid.sharded i_in

pub bounds-seen-shard-in-loop-k-2 : goal.bounds-seen-shard-in-loop-k-2
bounds-seen-shard-in-loop-k-2 c =
    let all = lent_lists c.args.records.now.lists.now in
    let i = c.args.from + c.loop-k.k in
    let i_in : i < length all = omega (arith, c.loop-k-test.true, c.requires.range) in
    shard-below c.args.records.now.hasher all c.args.records.now.shards.now i c.requires.valid.sharded i_in

pub bounds-ids-shard : goal.bounds-ids-shard
bounds-ids-shard c =
    let all = lent_lists c.args.records.now.lists.now in
    let i = c.args.from + c.loop-k.k in
    let i_in : i < length all = omega (arith, c.loop-k-test.true, c.requires.range) in
    omega (arith, shard-below c.args.records.now.hasher all c.args.records.now.shards.now i c.requires.valid.sharded i_in, c.requires.valid.each, length-map c.args.ids.now vec_items)

pub overflow_add-seen : goal.overflow_add-seen
overflow_add-seen c =
    let all = lent_lists c.args.records.now.lists.now in
    let i = c.args.from + c.loop-k.k in
    let i_in : i < length all = omega (arith, c.loop-k-test.true, c.requires.range) in
    let i_le : i ≤ length all = omega (arith, i_in) in
    let shard = get_or c.args.records.now.shards.now i 0 in
    let below = shard-below c.args.records.now.hasher all c.args.records.now.shards.now i c.requires.valid.sharded i_in in
    omega (arith, seen_counts-few (shard_of c.args.records.now.hasher) SHARDS all i c.loop-k.seen shard below i_le c.loop-k.invariant.seen_counts, c.loop-k-test.true, c.requires.range, shards-long (shard_of c.args.records.now.hasher) all c.args.records.now.shards.now c.requires.valid.sharded)

pub index-local_id-requires : goal.index-local_id-requires
index-local_id-requires c =
    let hasher = c.args.records.now.hasher in
    let all = lent_lists c.args.records.now.lists.now in
    let shards = c.args.records.now.shards.now in
    let local_ids = c.args.records.now.local_ids.now in
    let ids = c.args.ids.now in
    let i = c.args.from + c.loop-k.k in
    let i_in : i < length all = omega (arith, c.loop-k-test.true, c.requires.range) in
    let shard = get_or shards i 0 in
    let seen = get_or c.loop-k.seen shard 0 in
    let below = shard-below hasher all shards i c.requires.valid.sharded i_in in
    let there = read-record hasher all shards (map vec_items local_ids) (map vec_items ids) i c.loop-k.seen c.requires.valid i_in c.loop-k.invariant.seen_counts in
    let in_local_ids : shard < length local_ids = omega (arith, below, c.requires.valid.numbered.each, length-map local_ids vec_items) in
    let row = get_or-map vec_items local_ids shard c.index-local_ids-shard.result [] in_local_ids ∙ ap vec_items (sym c.index-local_ids-shard.is) in
    let counted : vec_len c.index-local_ids-shard.result ≡ length c.index-local_ids-shard.result.items = search rules in
    omega (arith, there.seen_in, ap length row, counted)

pub index-requires : goal.index-requires
index-requires c =
    let hasher = c.args.records.now.hasher in
    let all = lent_lists c.args.records.now.lists.now in
    let shards = c.args.records.now.shards.now in
    let local_ids = c.args.records.now.local_ids.now in
    let ids = c.args.ids.now in
    let i = c.args.from + c.loop-k.k in
    let i_in : i < length all = omega (arith, c.loop-k-test.true, c.requires.range) in
    let shard = get_or shards i 0 in
    let seen = get_or c.loop-k.seen shard 0 in
    let below = shard-below hasher all shards i c.requires.valid.sharded i_in in
    let there = read-record hasher all shards (map vec_items local_ids) (map vec_items ids) i c.loop-k.seen c.requires.valid i_in c.loop-k.invariant.seen_counts in
    let in_local_ids : shard < length local_ids = omega (arith, below, c.requires.valid.numbered.each, length-map local_ids vec_items) in
    let row = get_or-map vec_items local_ids shard c.index-local_ids-shard.result [] in_local_ids ∙ ap vec_items (sym c.index-local_ids-shard.is) in
    let seen_in : seen < length c.index-local_ids-shard.result.items = omega (arith, there.seen_in, ap length row) in
    let read = get_or_read c.index-local_ids-shard.result.items seen c.index-local_id.result.now seen_in c.index-local_id.ensures 0 in
    let local_id : c.index-local_id.result.now ≡ get_or (get_or (map vec_items local_ids) shard []) seen 0 = read ∙ ap (λ ns. get_or ns seen 0) (sym row) in
    let in_ids : shard < length ids = omega (arith, below, c.requires.valid.each, length-map ids vec_items) in
    let ids_row = get_or-map vec_items ids shard c.index-ids-shard.result [] in_ids ∙ ap vec_items (sym c.index-ids-shard.is) in
    let local_id_in : c.index-local_id.result.now < length c.index-ids-shard.result.items = omega (arith, local_id, there.local_id_in, ap length ids_row) in
    let counted : vec_len c.index-ids-shard.result ≡ length c.index-ids-shard.result.items = search rules in
    omega (arith, local_id_in, counted)

pub loop-k-preserved : goal.loop-k-preserved
loop-k-preserved c =
    let hasher = c.args.records.now.hasher in
    let all = lent_lists c.args.records.now.lists.now in
    let shards = c.args.records.now.shards.now in
    let local_ids = c.args.records.now.local_ids.now in
    let ids = c.args.ids.now in
    let i = c.args.from + c.loop-k.k in
    let i_in : i < length all = omega (arith, c.loop-k-test.true, c.requires.range) in
    let shard = get_or shards i 0 in
    let seen = get_or c.loop-k.seen shard 0 in
    let below = shard-below hasher all shards i c.requires.valid.sharded i_in in
    let there = read-record hasher all shards (map vec_items local_ids) (map vec_items ids) i c.loop-k.seen c.requires.valid i_in c.loop-k.invariant.seen_counts in
    let in_local_ids : shard < length local_ids = omega (arith, below, c.requires.valid.numbered.each, length-map local_ids vec_items) in
    let row = get_or-map vec_items local_ids shard c.index-local_ids-shard.result [] in_local_ids ∙ ap vec_items (sym c.index-local_ids-shard.is) in
    let seen_in : seen < length c.index-local_ids-shard.result.items = omega (arith, there.seen_in, ap length row) in
    let read = get_or_read c.index-local_ids-shard.result.items seen c.index-local_id.result.now seen_in c.index-local_id.ensures 0 in
    let local_id : c.index-local_id.result.now ≡ get_or (get_or (map vec_items local_ids) shard []) seen 0 = read ∙ ap (λ ns. get_or ns seen 0) (sym row) in
    let in_ids : shard < length ids = omega (arith, below, c.requires.valid.each, length-map ids vec_items) in
    let ids_row = get_or-map vec_items ids shard c.index-ids-shard.result [] in_ids ∙ ap vec_items (sym c.index-ids-shard.is) in
    let local_id_in : c.index-local_id.result.now < length c.index-ids-shard.result.items = omega (arith, local_id, there.local_id_in, ap length ids_row) in
    let read_number = get_or_read c.index-ids-shard.result.items c.index-local_id.result.now c.index.result.now local_id_in c.index.ensures 0 in
    let number : c.index.result.now ≡ id_of (distinct all) (get_or all i []) =
    read_number ∙ ap (λ ns. get_or ns c.index-local_id.result.now 0) (sym ids_row) ∙ ap (λ l. get_or (get_or (map vec_items ids) shard []) l 0) local_id ∙ there.number in
    let next : i + 1 ≡ c.args.from + (c.loop-k.k + 1) = omega arith in
    let more = seen_counts-more (shard_of hasher) SHARDS all i c.loop-k.seen shard i_in (shard-at (shard_of hasher) all shards i c.requires.valid.sharded i_in) below c.loop-k.invariant.seen_counts in
    record {
      seen_counts = subst (λ n. AreSeenCounts (shard_of hasher) SHARDS all n (slice_set c.loop-k.seen shard (seen + 1))) next more;
      read = from-more (id_of (distinct all)) all c.args.from c.loop-k.k c.loop-k.numbers c.index.result.now c.loop-k.invariant.read (omega (arith, c.loop-k-test.true)) number;
    }

pub returns : goal.returns
returns c = λ j d lt. c.loop-k.invariant.read j d (omega (arith, lt, c.loop-k-test.false))
