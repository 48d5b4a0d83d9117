use Rattle.std.proofs.Common.{rules}
use Rattle.group_machine.proofs.cluster.Cluster.topics.Goals as goal

pub returns-clause-topics : goal.returns-clause-topics
returns-clause-topics c = search rules

pub returns-clause-valid : goal.returns-clause-valid
returns-clause-valid c = search rules
