use Rattle.std.proofs.Common.{arith}
use Rattle.script.specs.Topics.{partition_at}
use Rattle.std.proofs.lemmas.Grind.{elements}
use Rattle.script.proofs.topics.partition_at.Goals as goal

pub returns-then-partition-topics : goal.returns-then-partition-topics
unfolding partition_at
returns-then-partition-topics c = grind (arith, elements)

pub returns-else-index-topics : goal.returns-else-index-topics
unfolding partition_at
returns-else-index-topics c = grind (arith, elements)
