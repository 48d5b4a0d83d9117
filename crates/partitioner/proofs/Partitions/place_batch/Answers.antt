use Rattle.std.proofs.Common.{length, refl}
use Rattle.partitioner.proofs.Hashes.{batch_placed}
use Rattle.partitioner.proofs.Partitions.place_batch.Goals as goal

pub returns : goal.returns
returns c =
    batch_placed c.args.self.now (λ i. 0) (λ i. 0) c.args.keys.now c.args.from (length c.args.places.now) c.hash_keys.new.hashes c.place_hashes.new.hashes c.requires.range c.hash_keys.ensures c.place_hashes.ensures (λ k lt. refl)
