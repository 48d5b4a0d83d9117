use Rattle.std.proofs.Common.{rules}
use Rattle.partitioner.proofs.Partitions.new.Goals as goal

pub returns : goal.returns
returns c = search rules
