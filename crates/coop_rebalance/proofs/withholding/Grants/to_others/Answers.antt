use Rattle.std.proofs.Common.{rules}
use Rattle.coop_rebalance.proofs.withholding.Grants.to_others.Goals as goal

pub returns-clause-elements : goal.returns-clause-elements
returns-clause-elements c = search rules
