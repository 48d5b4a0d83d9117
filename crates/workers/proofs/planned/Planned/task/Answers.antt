use Rattle.std.proofs.Common.{rules}
use Rattle.workers.proofs.planned.Planned.task.Goals as goal

pub returns-then-is_present : goal.returns-then-is_present
returns-then-is_present c = search rules
