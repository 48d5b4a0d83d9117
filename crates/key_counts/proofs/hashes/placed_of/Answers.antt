use Rattle.std.proofs.Common.{length, rules}
use Rattle.parallel.proofs.Placed.{both-give}
use Rattle.key_counts.specs.Private.Hashes.{ArePlaced, ArePlacedIn}
use Rattle.key_counts.proofs.Made.{are-made}
use Rattle.key_counts.proofs.hashes.placed_of.Goals as goal

pub returns : goal.returns
returns g c =
    let workers = c.args.workers.now in
    let Made = ArePlacedIn c.args.place.now c.args.skip workers in
    both-give c.collect_each.result _ _ (λ placed. ArePlaced c.args.place.now c.args.skip workers placed.items) (λ placed many each. are-made (length workers) Made placed.items many (λ w d lt. let own = (each w d lt).1.met in search rules))
    c.collect_each.ensures.len c.collect_each.ensures.each
