use Rattle.std.proofs.Common.{map, rules, vec_items}
use Rattle.parallel.proofs.Placed.{both-give}
use Rattle.partition_log.specs.Private.Shares.{AreMerged}
use Rattle.partition_log.proofs.Sharing.{merged-parts}
use Rattle.partition_log.proofs.shares.merged_logs.Goals as goal

pub returns : goal.returns
returns g c =
    let parts = c.args.parts.now in
    both-give c.collect_each.result _ _ (λ logs. AreMerged c.args.partitions (map (λ part. map vec_items part.items) parts) (map vec_items logs.items))
    (λ logs many each. merged-parts c.args.partitions parts logs.items many (λ p d lt. let own = (each p d lt).1.met in search rules)) c.collect_each.ensures.len c.collect_each.ensures.each
