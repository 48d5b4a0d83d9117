use Rattle.std.proofs.Common.{rules}
use Rattle.script.specs.Topics.{topic_named}
use Rattle.script.proofs.topics.index_named.Goals as goal

pub returns-in-None : goal.returns-in-None
unfolding topic_named
returns-in-None c = search rules
