use Rattle.std.proofs.Common.{arith}
use Rattle.std.proofs.lemmas.Grind.{common_steps}
use Rattle.keycount_c.proofs.cluster.readers.copy_records.Goals as goal

pub returns : goal.returns
returns c = grind (arith, common_steps)
