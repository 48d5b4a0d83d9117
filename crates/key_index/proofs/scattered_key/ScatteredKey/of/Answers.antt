use Rattle.std.proofs.Common.{rules}
use Rattle.key_index.proofs.scattered_key.ScatteredKey.of.Goals as goal

pub returns : goal.returns
returns c = search rules
