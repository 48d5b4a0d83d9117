use Rattle.std.proofs.Common.{rules}
use Rattle.workers.proofs.planned.number_of.Goals as goal

pub returns : goal.returns
returns c = search rules
