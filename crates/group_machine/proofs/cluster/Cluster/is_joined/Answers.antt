use Rattle.std.proofs.Common.{rules}
use Rattle.group_machine.proofs.cluster.Cluster.is_joined.Goals as goal

pub returns : goal.returns
returns c = search rules
