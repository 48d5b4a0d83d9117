use Rattle.std.proofs.Common.{rules}
use Rattle.group_machine.proofs.group.Group.leasable.Goals as goal

pub returns-clause-ok : goal.returns-clause-ok
returns-clause-ok c = search rules
