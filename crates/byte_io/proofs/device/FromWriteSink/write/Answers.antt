use Rattle.std.proofs.Common.{rules}
use Rattle.byte_io.proofs.device.FromWriteSink.write.Goals as goal

pub returns-in-Ok-clause-nonempty : goal.returns-in-Ok-clause-nonempty
returns-in-Ok-clause-nonempty g c = search rules
