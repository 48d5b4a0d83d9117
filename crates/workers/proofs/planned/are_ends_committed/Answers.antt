use Rattle.std.proofs.Common.{rules}
use Rattle.workers.proofs.planned.are_ends_committed.Goals as goal

pub loop-p-preserved : goal.loop-p-preserved
loop-p-preserved c = search rules
