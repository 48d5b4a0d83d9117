use Rattle.key_index.specs.Keys.{lent_lists}
use Rattle.key_index.specs.Private.Sharded.{AreSeenCounts, shard_of}
use Rattle.key_index.specs.declared.shards.TheConstants.{SHARDS}
use Rattle.key_index.proofs.interning.seen_before.Given as goal

abbrev pub invariant-loop-i : goal.invariant-loop-i
invariant-loop-i l = AreSeenCounts (shard_of l.fn.hasher) SHARDS (lent_lists l.lists) l.i l.seen
