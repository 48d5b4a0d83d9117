use Rattle.std.proofs.Common.{◌≡◌, map, take, vec_items}
use Rattle.key_index.specs.Keys.{lent}
use Rattle.key_index.specs.Private.Sharded.{AreRows, shard_of}
use Rattle.key_index.specs.declared.shards.TheConstants.{SHARDS}
use Rattle.key_index.proofs.scattering.scatter.Given as goal

abbrev pub invariant-loop-i : goal.invariant-loop-i
invariant-loop-i l = record {
  shards : l.shards.items ≡ map (shard_of l.fn.hasher) (take l.i (lent l.keys));
  rows : AreRows (shard_of l.fn.hasher) SHARDS (take l.i (lent l.keys)) (map vec_items l.rows.items);
}
