use Rattle.std.proofs.Common.{rules}
use Rattle.partitioner.proofs.hashing.positive.Goals as goal

pub returns : goal.returns
returns c = search rules
