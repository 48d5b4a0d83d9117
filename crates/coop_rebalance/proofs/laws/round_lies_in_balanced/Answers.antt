use Rattle.coop_rebalance.proofs.Rounds.{next_within}
use Rattle.coop_rebalance.proofs.laws.round_lies_in_balanced.Goals as goal

pub returns : goal.returns
returns c = λ granted are. next_within granted are.valid are.some are.disjoint
