use Rattle.std.proofs.Common.{rules}
use Rattle.keycount_c.proofs.cluster.readers.keycount_cluster_count.Goals as goal

pub returns-in_default-clause-answer : goal.returns-in_default-clause-answer
returns-in_default-clause-answer c = search rules

pub returns-then-keys-number-clause-answer : goal.returns-then-keys-number-clause-answer
returns-then-keys-number-clause-answer c = search rules

pub returns-clause-answer : goal.returns-clause-answer
returns-clause-answer c = search rules
