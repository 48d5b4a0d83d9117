use Rattle.std.proofs.Common.{rules}
use Rattle.group_machine.proofs.cluster.Cluster.granted.Goals as goal

pub returns-clause-granted : goal.returns-clause-granted
returns-clause-granted c = search rules
