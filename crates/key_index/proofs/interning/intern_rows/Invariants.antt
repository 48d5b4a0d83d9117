use Rattle.std.proofs.Common.{take}
use Rattle.key_index.specs.Private.Sharded.{shard_of}
use Rattle.key_index.specs.Keys.{lent_lists}
use Rattle.key_index.proofs.ShardRecords.{IsInternedUpTo}
use Rattle.key_index.proofs.interning.intern_rows.Given as goal

abbrev pub invariant-loop-i : goal.invariant-loop-i
invariant-loop-i l = IsInternedUpTo (shard_of l.fn.hasher) l.shard (lent_lists l.lists) (lent_lists (take l.i l.lists)) l.interned.table l.interned.local_ids.items
