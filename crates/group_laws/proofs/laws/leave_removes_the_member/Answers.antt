use Rattle.group_laws.proofs.OtherLemmas.{leave_takes_out}
use Rattle.group_laws.proofs.laws.leave_removes_the_member.Goals as goal

pub returns : goal.returns
returns c = leave_takes_out
