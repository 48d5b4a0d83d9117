use Rattle.group_laws.proofs.ResultLemmas.{sync_result}
use Rattle.group_laws.proofs.laws.sync_preserves_result.Goals as goal

pub returns : goal.returns
returns c = sync_result
