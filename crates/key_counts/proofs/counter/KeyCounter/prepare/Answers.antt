use Rattle.std.proofs.Common.{rules}
use Rattle.key_counts.proofs.counter.KeyCounter.prepare.Goals as goal

pub returns : goal.returns
returns c = search rules
