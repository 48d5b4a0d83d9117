use Rattle.std.proofs.Common.{rules}
use Rattle.sticky_assignor.proofs.quotas_of.Goals as goal

pub returns : goal.returns
returns c = search rules
