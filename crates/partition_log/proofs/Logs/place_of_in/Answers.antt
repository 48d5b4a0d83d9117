use Rattle.std.proofs.Common.{rules}
use Rattle.partition_log.proofs.Logs.place_of_in.Goals as goal

pub returns-clause-partition : goal.returns-clause-partition
returns-clause-partition c = search rules

pub returns-clause-topic : goal.returns-clause-topic
returns-clause-topic c = search rules
