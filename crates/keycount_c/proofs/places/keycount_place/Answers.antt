use Rattle.std.proofs.Common.{rules}
use Rattle.keycount_c.proofs.places.keycount_place.Goals as goal

pub returns-then-partitions-lt1 : goal.returns-then-partitions-lt1
returns-then-partitions-lt1 c = search rules

pub returns : goal.returns
returns c = search rules
