use Rattle.std.proofs.Common.{rules}
use Rattle.group_machine.proofs.cluster.Cluster.append_in.Goals as goal

pub returns-clause-answer : goal.returns-clause-answer
returns-clause-answer c = search rules

pub returns-clause-ok : goal.returns-clause-ok
returns-clause-ok c = search rules

pub returns-clause-history : goal.returns-clause-history
returns-clause-history c = search rules
