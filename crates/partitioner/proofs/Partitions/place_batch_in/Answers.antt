use Rattle.std.proofs.Common.{◌+◌, ◌-◌, drop, get_or, length, take}
use Rattle.partitioner.proofs.Hashes.{batch_placed, batch_topic}
use Rattle.partitioner.proofs.Partitions.place_batch_in.Goals as goal

pub returns : goal.returns
returns c =
    let from = c.args.from in
    let n = length c.args.places.now in
    batch_placed c.args.self.now (λ i. get_or c.args.topics.now i 0) (λ i. get_or (take (from + n - from) (drop from c.args.topics.now)) i 0) c.args.keys.now from n c.hash_keys.new.hashes c.place_hashes_in.new.hashes c.requires.range c.hash_keys.ensures c.place_hashes_in.ensures (batch_topic c.args.topics.now from n)
