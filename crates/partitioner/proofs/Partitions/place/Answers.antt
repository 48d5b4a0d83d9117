use Rattle.std.proofs.Common.{arith, subst}
use Rattle.partitioner.specs.Place.{AreCounts}
use Rattle.partitioner.proofs.Partitions.place.Goals as goal

pub place_in-requires : goal.place_in-requires
place_in-requires c =
    let counts = subst AreCounts c.self.view_is c.self.invariant.1 in
    omega (arith, counts.some)
