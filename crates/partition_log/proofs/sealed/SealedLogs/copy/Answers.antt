use Rattle.std.proofs.Common.{rules}
use Rattle.partition_log.proofs.sealed.SealedLogs.copy.Goals as goal

pub returns-clause-value : goal.returns-clause-value
returns-clause-value g c = search rules
