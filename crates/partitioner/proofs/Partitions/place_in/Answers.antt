use Rattle.std.proofs.Common.{◌∙◌, ap}
use Rattle.partitioner.specs.Place.{place_of}
use Rattle.partitioner.specs.Private.Counts.{place_of_hash}
use Rattle.partitioner.proofs.Partitions.place_in.Goals as goal

pub returns-clause-partition : goal.returns-clause-partition
unfolding place_of
returns-clause-partition c = c.place_of_hash.ensures.partition ∙ ap (place_of_hash c.args.self.now c.args.topic) c.hash_key.ensures
