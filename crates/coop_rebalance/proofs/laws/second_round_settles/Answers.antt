use Rattle.coop_rebalance.proofs.Rounds.{settles}
use Rattle.coop_rebalance.proofs.laws.second_round_settles.Goals as goal

pub returns : goal.returns
returns c = λ granted are. settles granted are.valid are.some are.disjoint
