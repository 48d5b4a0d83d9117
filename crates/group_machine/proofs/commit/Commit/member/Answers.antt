use Rattle.std.proofs.Common.{rules}
use Rattle.group_machine.proofs.commit.Commit.member.Goals as goal

pub returns : goal.returns
returns c = search rules
