use Rattle.std.proofs.Common.{arith}
use Rattle.std.proofs.lemmas.Grind.{common_steps}
use Rattle.key_index.proofs.interning.numbered.Goals as goal

pub read_slices-requires-clause-len : goal.read_slices-requires-clause-len
read_slices-requires-clause-len g c κs within = grind (arith, common_steps)

pub returns-clause-numbers : goal.returns-clause-numbers
returns-clause-numbers g c = grind (arith, common_steps)
