use Rattle.std.proofs.Common.{arith, get_or}
use Rattle.partitioner.proofs.Hashes.{all_placed, none_placed, one_placed}
use Rattle.partitioner.proofs.Partitions.place_hashes_in.Goals as goal

pub loop-i-init : goal.loop-i-init
loop-i-init c = none_placed c.args.self.now (λ i. get_or c.args.topics.now i 0) c.args.hashes.now

pub place_of_hash-requires : goal.place_of_hash-requires
place_of_hash-requires c = c.requires.topics.among c.loop-i.i 0 (omega (arith, c.loop-i-test.true, c.requires.topics.as_many))

pub loop-i-preserved : goal.loop-i-preserved
loop-i-preserved c =
    one_placed c.args.self.now (λ i. get_or c.args.topics.now i 0) c.loop-i.i c.args.hashes.now c.loop-i.hashes c.place_of_hash.result c.loop-i-test.true c.loop-i.invariant c.place_of_hash.ensures.partition

pub returns : goal.returns
returns c = all_placed c.args.self.now (λ i. get_or c.args.topics.now i 0) c.loop-i.i c.args.hashes.now c.loop-i.hashes (omega (arith, c.loop-i-test.false)) c.loop-i.invariant
