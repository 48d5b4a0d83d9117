use Rattle.group_laws.proofs.ResultFacts.{names_result, present_result}
use Rattle.group_laws.proofs.laws.rebalance_preserves_membership.Goals as goal

pub returns-clause-names : goal.returns-clause-names
returns-clause-names c = names_result

pub returns-clause-present : goal.returns-clause-present
returns-clause-present c = present_result
