use Rattle.std.proofs.Common.{rules}
use Rattle.keycount_c.proofs.places.keycount_murmur2.Goals as goal

pub returns : goal.returns
returns c = search rules
