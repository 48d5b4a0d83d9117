use Rattle.group_laws.proofs.ResultLemmas.{rejoin_result}
use Rattle.group_laws.proofs.laws.rejoin_preserves_result.Goals as goal

pub returns : goal.returns
returns c g member a = rejoin_result g member a.generation a.claim a.valid a.accepted
