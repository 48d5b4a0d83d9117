use Rattle.std.proofs.Common.{subst}
use Rattle.partitioner.specs.Place.{AreCounts}
use Rattle.partitioner.proofs.Counts.{some_partitions}
use Rattle.partitioner.proofs.Partitions.count.Goals as goal

pub returns-clause-range : goal.returns-clause-range
returns-clause-range c =
    let counts = subst AreCounts c.self.view_is c.self.invariant.1 in
    (some_partitions c.args.self.now counts, counts.within)
