use Rattle.std.proofs.Common.{rules}
use Rattle.group_machine.proofs.cluster.Cluster.next_step.Goals as goal

pub returns-then-same : goal.returns-then-same
returns-then-same c = search rules

pub returns : goal.returns
returns c = search rules
