use Rattle.std.proofs.Common.{rules}
use Rattle.key_index.proofs.scattered_key.ScatteredKey.intern_in.Goals as goal

pub returns-in-Long : goal.returns-in-Long
returns-in-Long c = search rules
