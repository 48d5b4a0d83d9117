use Rattle.std.proofs.Common.{rules}
use Rattle.key_counts.proofs.counter.KeyCounter.settle.Goals as goal

pub returns-clause-entries : goal.returns-clause-entries
returns-clause-entries c = search rules
