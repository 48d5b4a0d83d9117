use Rattle.std.proofs.Common.{refl}
use Rattle.key_counts.proofs.filter.Filter.of.Goals as goal

pub returns : goal.returns
returns g c = record {
  placed = refl;
  marked = c.in_ok-parts.ensures;
}
