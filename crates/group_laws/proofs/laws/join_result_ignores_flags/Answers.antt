use Rattle.group_laws.proofs.ResultFacts.{join_without_flags}
use Rattle.group_laws.proofs.laws.join_result_ignores_flags.Goals as goal

pub returns : goal.returns
returns c = join_without_flags
