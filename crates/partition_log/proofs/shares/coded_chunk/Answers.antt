use Rattle.std.proofs.Common.{arith}
use Rattle.std.proofs.lemmas.Grind.{common_steps}
use Rattle.partition_log.proofs.shares.coded_chunk.Goals as goal

pub returns-clause-places : goal.returns-clause-places
returns-clause-places c = grind (arith, common_steps)

pub returns-clause-numbers : goal.returns-clause-numbers
returns-clause-numbers c = grind (arith, common_steps)
