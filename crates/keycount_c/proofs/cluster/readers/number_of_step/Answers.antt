use Rattle.std.proofs.Common.{rules}
use Rattle.keycount_c.proofs.cluster.readers.number_of_step.Goals as goal

pub returns-in-Sync : goal.returns-in-Sync
returns-in-Sync c = search rules

pub returns-in-Rejoin : goal.returns-in-Rejoin
returns-in-Rejoin c = search rules

pub returns-in-Read : goal.returns-in-Read
returns-in-Read c = search rules
