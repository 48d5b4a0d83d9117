use Rattle.std.proofs.Common.{rules}
use Rattle.key_index.proofs.key_map.KeyMap.count.Goals as goal

pub returns : goal.returns
returns c = search rules
