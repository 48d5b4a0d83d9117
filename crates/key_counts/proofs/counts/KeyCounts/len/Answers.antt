use Rattle.std.proofs.Common.{arith}
use Rattle.std.proofs.lemmas.Grind.{common_steps}
use Rattle.key_counts.proofs.counts.KeyCounts.len.Goals as goal

pub returns-clause-keys : goal.returns-clause-keys
returns-clause-keys c = grind (arith, common_steps)

pub returns-clause-counts : goal.returns-clause-counts
returns-clause-counts c = grind (arith, common_steps)
