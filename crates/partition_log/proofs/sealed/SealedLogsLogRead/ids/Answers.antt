use Rattle.std.proofs.Common.{rules}
use Rattle.partition_log.proofs.sealed.SealedLogsLogRead.ids.Goals as goal

pub returns-clause-ids : goal.returns-clause-ids
returns-clause-ids c = search rules
