use Rattle.std.proofs.Common.{rules}
use Rattle.group_machine.proofs.cluster.Cluster.assigned.Goals as goal

pub returns-clause-assigned : goal.returns-clause-assigned
returns-clause-assigned c = search rules
