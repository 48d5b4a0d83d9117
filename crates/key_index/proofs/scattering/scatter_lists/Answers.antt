use Rattle.std.proofs.Common.{rules}
use Rattle.parallel.proofs.Placed.{both-give}
use Rattle.key_index.specs.Private.Sharded.{AreScattered, shard_of}
use Rattle.key_index.proofs.scattering.scatter_lists.Goals as goal

pub returns : goal.returns
returns g c =
    both-give c.collect_each.result _ _ (λ scattered. AreScattered (shard_of c.args.hasher) c.args.lists.now scattered.items) (λ scattered many each. record { as_many = many; are = λ i d e lt. search rules }) c.collect_each.ensures.len
    c.collect_each.ensures.each
