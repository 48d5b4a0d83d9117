use Rattle.std.proofs.Common.{rules}
use Rattle.group_machine.proofs.group.members.Members.new.Goals as goal

pub returns : goal.returns
returns c = search rules
