use Rattle.std.proofs.Common.{rules}
use Rattle.parallel.proofs.Placed.{both-give}
use Rattle.key_counts.specs.Private.Filter.{AreMarkedIn}
use Rattle.key_counts.specs.Private.Results.{AreMade}
use Rattle.key_counts.specs.declared.filter.TheConstants.{PARTS}
use Rattle.key_counts.proofs.Made.{are-made}
use Rattle.key_counts.proofs.filter.marked.Goals as goal

pub returns : goal.returns
returns g c =
    let Made = AreMarkedIn c.args.workers.now in
    both-give c.collect_each.result _ _ (λ parts. AreMade PARTS Made parts.items) (λ parts many each. are-made PARTS Made parts.items many (λ part d lt. let own = (each part d lt).1.met in search rules)) c.collect_each.ensures.len
    c.collect_each.ensures.each
