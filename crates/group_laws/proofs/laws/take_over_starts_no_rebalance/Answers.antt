use Rattle.group_laws.proofs.TakeOverLemmas.{taken_settled, taken_without_flags}
use Rattle.group_laws.proofs.laws.take_over_starts_no_rebalance.Goals as goal

pub returns-clause-settled : goal.returns-clause-settled
returns-clause-settled c = taken_settled

pub returns-clause-flags : goal.returns-clause-flags
returns-clause-flags c = taken_without_flags
