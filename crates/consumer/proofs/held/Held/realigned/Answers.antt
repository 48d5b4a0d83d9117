use Rattle.std.proofs.Common.{rules}
use Rattle.consumer.proofs.held.Held.realigned.Goals as goal

pub returns-then-self-committed : goal.returns-then-self-committed
returns-then-self-committed c = search rules
