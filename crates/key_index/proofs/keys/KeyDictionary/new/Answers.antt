use Rattle.std.proofs.Common.{rules}
use Rattle.key_index.proofs.keys.KeyDictionary.new.Goals as goal

pub returns : goal.returns
returns g c = search rules
