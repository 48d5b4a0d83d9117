use Rattle.std.proofs.Common.{◌≡◌, ◌≤◌, drop, length, map, vec_items}
use Rattle.std.specs.Vec.Iter.{into_iter_items, into_iter_len}
use Rattle.key_index.specs.Private.Sharded.{AreLocalIds, AreTables, shard_of}
use Rattle.key_index.specs.Keys.{lent_lists}
use Rattle.key_index.proofs.interning.tables_of.Given as goal

abbrev pub invariant-loop-shard : goal.invariant-loop-shard
invariant-loop-shard l = record {
  within : length l.tables.items ≤ length l.fn.shards.items;
  rest : into_iter_items l.shard-iterator ≡ drop (length l.tables.items) l.fn.shards.items;
  len : into_iter_len l.shard-iterator ≡ length (into_iter_items l.shard-iterator);
  tables : AreTables (shard_of l.fn.hasher) (length l.tables.items) (lent_lists l.lists) l.tables.items;
  local_ids : AreLocalIds (shard_of l.fn.hasher) (length l.tables.items) (lent_lists l.lists) (map vec_items l.local_ids.items);
}
