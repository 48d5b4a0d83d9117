use Rattle.std.proofs.Common.{rules}
use Rattle.partitioner.proofs.Partitions.topics.Goals as goal

pub returns-clause-topics : goal.returns-clause-topics
returns-clause-topics c = search rules

pub returns-clause-valid : goal.returns-clause-valid
returns-clause-valid c = search rules
