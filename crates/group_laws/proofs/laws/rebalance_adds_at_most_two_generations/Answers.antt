use Rattle.group_laws.proofs.ResultFacts.{result_by, result_from}
use Rattle.group_laws.proofs.laws.rebalance_adds_at_most_two_generations.Goals as goal

pub returns-clause-sorted : goal.returns-clause-sorted
returns-clause-sorted c = result_from

pub returns-clause-bound : goal.returns-clause-bound
returns-clause-bound c = result_by
