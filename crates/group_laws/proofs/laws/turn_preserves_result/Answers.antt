use Rattle.group_laws.proofs.PassLemmas.{after_turn_result}
use Rattle.group_laws.proofs.laws.turn_preserves_result.Goals as goal

pub returns : goal.returns
returns c = after_turn_result
