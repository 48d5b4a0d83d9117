use Rattle.std.proofs.Common.{length, ap, arith}
use Rattle.bit_planes.specs.PartitionSet.{partitions_of}
use Rattle.bit_planes.proofs.Listed.{elements-first, length-elements}
use Rattle.bit_planes.proofs.Sets.{rank_most, size_most}
use Rattle.bit_planes.proofs.elements.Elements.new.Goals as goal

pub returns-clause-value : goal.returns-clause-value
returns-clause-value c = elements-first c.args.plane.now

pub returns-clause-bound : goal.returns-clause-bound
returns-clause-bound c =
    let s = c.args.plane.now in
    let below = c.partitions.ensures.value in
    let most = size_most s in
    omega (arith, ap length (elements-first s), length-elements s, rank_most s (partitions_of s), c.partitions.ensures.bound)
