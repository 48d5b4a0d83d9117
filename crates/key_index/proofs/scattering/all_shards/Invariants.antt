use Rattle.std.proofs.Common.{◌≡◌, map, take}
use Rattle.key_index.specs.Keys.{lent_lists}
use Rattle.key_index.specs.Private.Sharded.{shard_of}
use Rattle.key_index.proofs.scattering.all_shards.Given as goal

abbrev pub invariant-loop-i : goal.invariant-loop-i
invariant-loop-i l = l.shards.items ≡ map (shard_of l.fn.hasher) (lent_lists (take l.i l.lists))
