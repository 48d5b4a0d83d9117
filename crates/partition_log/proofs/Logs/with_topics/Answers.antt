use Rattle.std.proofs.Common.{rules}
use Rattle.partition_log.proofs.Logs.with_topics.Goals as goal

pub returns-clause-counts : goal.returns-clause-counts
returns-clause-counts g c = search rules

pub returns-clause-partitions : goal.returns-clause-partitions
returns-clause-partitions g c = search rules
