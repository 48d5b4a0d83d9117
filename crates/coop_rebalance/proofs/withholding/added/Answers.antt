use Rattle.std.proofs.Common.{rules}
use Rattle.coop_rebalance.proofs.withholding.added.Goals as goal

pub returns-clause-value : goal.returns-clause-value
returns-clause-value c = search rules

pub returns-clause-elements : goal.returns-clause-elements
returns-clause-elements c = search rules
