use Rattle.std.proofs.Common.{rules}
use Rattle.key_index.proofs.key_map.KeyMap.intern_short.Goals as goal

pub returns-clause-ok : goal.returns-clause-ok
returns-clause-ok c = search rules
