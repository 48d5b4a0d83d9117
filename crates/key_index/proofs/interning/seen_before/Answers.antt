use Rattle.std.proofs.Common.{◌<◌, ◌≤◌, arith, ap, get_or, length}
use Rattle.std.proofs.lemmas.List.{length-map}
use Rattle.key_index.specs.Keys.{lent_lists}
use Rattle.key_index.specs.Private.Sharded.{shard_of}
use Rattle.key_index.specs.declared.shards.TheConstants.{SHARDS}
use Rattle.key_index.proofs.ShardRecords.{seen_counts-few, seen_counts-more, seen_counts-none, shard-at, shard-below}
use Rattle.key_index.proofs.interning.seen_before.Goals as goal

pub loop-i-init : goal.loop-i-init
loop-i-init c = seen_counts-none (shard_of c.args.hasher) SHARDS (lent_lists c.args.lists.now)

pub bounds-shards-i : goal.bounds-shards-i
bounds-shards-i c =
    let all = lent_lists c.args.lists.now in
    omega (arith, c.loop-i-test.true, c.requires.range, ap length c.requires.shards, length-map all (shard_of c.args.hasher))

pub bounds-seen-shards : goal.bounds-seen-shards
bounds-seen-shards c =
    let all = lent_lists c.args.lists.now in
    let i_in : c.loop-i.i < length all = omega (arith, c.loop-i-test.true, c.requires.range) in
    omega (arith, shard-below c.args.hasher all c.args.shards.now c.loop-i.i c.requires.shards i_in)

pub bounds-seen-shards-in-loop-i : goal.bounds-seen-shards-in-loop-i
bounds-seen-shards-in-loop-i c =
    let all = lent_lists c.args.lists.now in
    let i_in : c.loop-i.i < length all = omega (arith, c.loop-i-test.true, c.requires.range) in
    omega (arith, shard-below c.args.hasher all c.args.shards.now c.loop-i.i c.requires.shards i_in)

pub overflow_add-seen : goal.overflow_add-seen
overflow_add-seen c =
    let all = lent_lists c.args.lists.now in
    let i = c.loop-i.i in
    let i_in : i < length all = omega (arith, c.loop-i-test.true, c.requires.range) in
    let i_le : i ≤ length all = omega (arith, i_in) in
    let shard = get_or c.args.shards.now i 0 in
    let below : shard < SHARDS = shard-below c.args.hasher all c.args.shards.now i c.requires.shards i_in in
    omega (arith, seen_counts-few (shard_of c.args.hasher) SHARDS all i c.loop-i.seen shard below i_le c.loop-i.invariant, c.loop-i-test.true)

pub loop-i-preserved : goal.loop-i-preserved
loop-i-preserved c =
    let all = lent_lists c.args.lists.now in
    let shards = c.args.shards.now in
    let i = c.loop-i.i in
    let i_in : i < length all = omega (arith, c.loop-i-test.true, c.requires.range) in
    let shard = get_or shards i 0 in
    let below : shard < SHARDS = shard-below c.args.hasher all shards i c.requires.shards i_in in
    seen_counts-more (shard_of c.args.hasher) SHARDS all i c.loop-i.seen shard i_in (shard-at (shard_of c.args.hasher) all shards i c.requires.shards i_in) below c.loop-i.invariant
