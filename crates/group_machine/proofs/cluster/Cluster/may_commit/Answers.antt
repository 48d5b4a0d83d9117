use Rattle.std.proofs.Common.{rules}
use Rattle.group_machine.proofs.cluster.Cluster.may_commit.Goals as goal

pub returns-then-not-contains : goal.returns-then-not-contains
returns-then-not-contains c = search rules

pub returns : goal.returns
returns c = search rules

pub returns-in_default : goal.returns-in_default
returns-in_default c = search rules

pub returns-then-generation-self : goal.returns-then-generation-self
returns-then-generation-self c = search rules
