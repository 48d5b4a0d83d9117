use Rattle.std.proofs.Common.{arith, rules}
use Rattle.std.proofs.lemmas.Grind.{common_steps}
use Rattle.ingest.proofs.limits.append.Goals as goal

pub returns-then-key-gt-LONGEST_KEY-clause-range : goal.returns-then-key-gt-LONGEST_KEY-clause-range
returns-then-key-gt-LONGEST_KEY-clause-range c = search rules

pub returns-clause-fault : goal.returns-clause-fault
returns-clause-fault c = grind (arith, common_steps)
