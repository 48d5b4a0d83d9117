use Rattle.std.proofs.Common.{◌+◌}
use Rattle.key_index.specs.Keys.{distinct, id_of, lent_lists}
use Rattle.key_index.specs.Private.Sharded.{AreFrom, AreSeenCounts, shard_of}
use Rattle.key_index.specs.declared.shards.TheConstants.{SHARDS}
use Rattle.key_index.proofs.interning.read_numbers.Given as goal

abbrev pub invariant-loop-k : goal.invariant-loop-k
invariant-loop-k l = record {
  seen_counts : AreSeenCounts (shard_of l.records.hasher) SHARDS (lent_lists l.records.lists.now) (l.from + l.k) l.seen;
  read : AreFrom (id_of (distinct (lent_lists l.records.lists.now))) (lent_lists l.records.lists.now) l.from l.k l.numbers;
}
