use Rattle.std.proofs.Common.{arith, subst}
use Rattle.partitioner.specs.Place.{AreCounts}
use Rattle.partitioner.proofs.Hashes.{all_placed, none_placed, one_placed}
use Rattle.partitioner.proofs.Partitions.place_hashes.Goals as goal

pub loop-i-init : goal.loop-i-init
loop-i-init c = none_placed c.args.self.now (λ i. 0) c.args.hashes.now

pub place_of_hash-requires : goal.place_of_hash-requires
place_of_hash-requires c =
    let counts = subst AreCounts c.self.view_is c.self.invariant.1 in
    omega (arith, counts.some)

pub loop-i-preserved : goal.loop-i-preserved
loop-i-preserved c =
    one_placed c.args.self.now (λ i. 0) c.loop-i.i c.args.hashes.now c.loop-i.hashes c.place_of_hash.result c.loop-i-test.true c.loop-i.invariant c.place_of_hash.ensures.partition

pub returns : goal.returns
returns c = all_placed c.args.self.now (λ i. 0) c.loop-i.i c.args.hashes.now c.loop-i.hashes (omega (arith, c.loop-i-test.false)) c.loop-i.invariant
