use Rattle.std.proofs.Common.{rules}
use Rattle.key_stream.proofs.ahead.take_and_read.Goals as goal

pub returns-in-Ok-taken-clause-ok : goal.returns-in-Ok-taken-clause-ok
returns-in-Ok-taken-clause-ok g c = search rules

pub returns-in-Ok-taken-clause-window : goal.returns-in-Ok-taken-clause-window
returns-in-Ok-taken-clause-window g c = search rules

pub returns-in-Ok-taken-clause-no_failures : goal.returns-in-Ok-taken-clause-no_failures
returns-in-Ok-taken-clause-no_failures g c = search rules
