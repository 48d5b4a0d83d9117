use Rattle.std.proofs.Common.{arith}
use Rattle.keycount_c.proofs.owners.keycount_withhold.Goals as goal

pub put_holders-requires : goal.put_holders-requires
put_holders-requires c =
    let may = c.if-not-may_own.ensures.0 (search) in
    omega (arith, c.in-Ok.ensures.partitions, may.fits, c.if-target-owners.false)
