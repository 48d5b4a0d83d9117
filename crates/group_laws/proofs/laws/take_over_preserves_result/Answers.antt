use Rattle.group_laws.proofs.TakeOverLemmas.{taken_end}
use Rattle.group_laws.proofs.TakeOverResult.{taken_generation}
use Rattle.group_laws.proofs.laws.take_over_preserves_result.Goals as goal

pub returns-clause-settled : goal.returns-clause-settled
returns-clause-settled c = taken_end

pub returns-clause-generation : goal.returns-clause-generation
returns-clause-generation c g name a = taken_generation g name a.number a.valid a.accepted
