use Rattle.std.proofs.Common.{rules}
use Rattle.partitioner.proofs.Partitions.same.Goals as goal

pub returns : goal.returns
returns c = search rules
