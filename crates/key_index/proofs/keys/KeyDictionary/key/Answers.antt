use Rattle.std.proofs.Common.{arith}
use Rattle.std.proofs.lemmas.Grind.{common_steps}
use Rattle.key_index.proofs.keys.KeyDictionary.key.Goals as goal

pub returns-then-number-first : goal.returns-then-number-first
returns-then-number-first c = grind (arith, common_steps)
