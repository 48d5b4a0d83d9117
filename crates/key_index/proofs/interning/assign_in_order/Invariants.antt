use Rattle.std.proofs.Common.{◌≡◌, map, take, length, vec_items}
use Rattle.key_index.specs.Keys.{distinct, lent_lists}
use Rattle.key_index.specs.Private.Sharded.{AreOrdered, AreSeenCounts, shard_of}
use Rattle.key_index.specs.declared.shards.TheConstants.{SHARDS}
use Rattle.key_index.proofs.Assigned.{AreAssigned}
use Rattle.key_index.proofs.interning.assign_in_order.Given as goal

abbrev pub invariant-loop-i : goal.invariant-loop-i
invariant-loop-i l = record {
  len : length l.ids.items ≡ SHARDS;
  seen_counts : AreSeenCounts (shard_of l.records.hasher) SHARDS (lent_lists l.records.lists.now) l.i l.seen;
  assigned : AreAssigned (shard_of l.records.hasher) (lent_lists l.records.lists.now) (take l.i (lent_lists l.records.lists.now)) (map vec_items l.ids.items) (length l.order.items);
  ordered : AreOrdered (shard_of l.records.hasher) (lent_lists l.records.lists.now) (distinct (take l.i (lent_lists l.records.lists.now))) SHARDS l.order.items;
}
