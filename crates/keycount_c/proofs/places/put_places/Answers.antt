use Rattle.std.proofs.Common.{rules}
use Rattle.keycount_c.proofs.places.put_places.Goals as goal

pub returns : goal.returns
returns c = search rules
