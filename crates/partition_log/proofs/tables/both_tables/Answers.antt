use Rattle.std.proofs.Common.{rules}
use Rattle.partition_log.proofs.tables.both_tables.Goals as goal

pub returns-clause-places : goal.returns-clause-places
returns-clause-places c = search rules

pub returns-clause-numbers : goal.returns-clause-numbers
returns-clause-numbers c = search rules
