use Rattle.group_laws.proofs.ResultFacts.{leave_without_flags}
use Rattle.group_laws.proofs.laws.leave_result_ignores_flags.Goals as goal

pub returns : goal.returns
returns c = leave_without_flags
