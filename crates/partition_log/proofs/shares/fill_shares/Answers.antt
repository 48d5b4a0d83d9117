use Rattle.std.proofs.Common.{◌∙◌, ◌<◌, arith, map, rules, vec_items}
use Rattle.parallel.proofs.Placed.{both-give}
use Rattle.partition_log.specs.Private.Shares.{AreFilled}
use Rattle.partition_log.proofs.Sharing.{filled-parts}
use Rattle.partition_log.proofs.shares.fill_shares.Goals as goal

pub returns : goal.returns
returns g c =
    let taken = c.args.taken.now in
    let size = c.args.size in
    let some : 0 < size = omega (arith, c.requires.nonempty) in
    both-give c.collect_each.result _ _ (λ parts. AreFilled c.args.partitions taken.workers.now c.args.tables.now size taken.chunks.now (map (λ part. map vec_items part.items) parts.items))
    (λ parts many each. filled-parts c.args.partitions taken.workers.now c.args.tables.now size taken.chunks.now parts.items some (many ∙ c.div_ceil-shares.ensures) (λ i d lt. let own = (each i d (omega (arith, lt, many))).1.met in search rules))
    c.collect_each.ensures.len c.collect_each.ensures.each
