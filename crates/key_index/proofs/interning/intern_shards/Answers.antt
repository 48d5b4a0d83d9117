use Rattle.std.proofs.Common.{rules}
use Rattle.std.proofs.lemmas.Result.{IfOk-weaker}
use Rattle.key_index.specs.Keys.{lent_lists}
use Rattle.key_index.specs.Private.Sharded.{AreInterned, shard_of}
use Rattle.key_index.specs.declared.shards.TheConstants.{SHARDS}
use Rattle.key_index.proofs.interning.intern_shards.Goals as goal

pub returns-clause-shards : goal.returns-clause-shards
returns-clause-shards g c =
    IfOk-weaker c.collect_each.result _ (λ shards. AreInterned (shard_of c.args.hasher) (lent_lists c.args.lists.now) SHARDS shards.items) (λ shards each s d lt. let own = (each s d lt).1.met in search rules) c.collect_each.ensures.each
