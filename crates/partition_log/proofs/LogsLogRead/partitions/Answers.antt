use Rattle.std.proofs.Common.{rules}
use Rattle.partition_log.proofs.LogsLogRead.partitions.Goals as goal

pub returns-clause-count : goal.returns-clause-count
returns-clause-count c = search rules
