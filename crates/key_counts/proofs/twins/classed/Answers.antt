use Rattle.std.proofs.Common.{length, rules}
use Rattle.parallel.proofs.Placed.{both-give}
use Rattle.key_counts.specs.Private.Results.{AreMade}
use Rattle.key_counts.specs.Private.Twins.{AreClassesIn}
use Rattle.key_counts.proofs.Made.{are-made}
use Rattle.key_counts.proofs.twins.classed.Goals as goal

pub returns : goal.returns
returns g c =
    let workers = c.args.workers.now in
    let Made = AreClassesIn c.args.filter.now workers c.args.placed.now in
    both-give c.collect_each.result _ _ (λ lists. AreMade (length workers) Made lists.items) (λ lists many each. are-made (length workers) Made lists.items many (λ w d lt. let own = (each w d lt).1.met in search rules)) c.collect_each.ensures.len
    c.collect_each.ensures.each
