use Rattle.std.proofs.Common.{rules}
use Rattle.world.proofs.world.World.mail.Goals as goal

pub returns-clause-mail : goal.returns-clause-mail
returns-clause-mail c = search rules
