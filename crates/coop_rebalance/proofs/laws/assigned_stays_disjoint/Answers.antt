use Rattle.coop_rebalance.proofs.Rounds.{given_disjoint}
use Rattle.coop_rebalance.proofs.laws.assigned_stays_disjoint.Goals as goal

pub returns : goal.returns
returns c = λ granted are. given_disjoint granted are.valid are.some are.disjoint
