use Rattle.std.proofs.Common.{rules}
use Rattle.partition_log.proofs.LogsLogRead.key.Goals as goal

pub returns : goal.returns
returns c = search rules
