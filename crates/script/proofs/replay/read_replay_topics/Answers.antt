use Rattle.std.proofs.Common.{rules}
use Rattle.script.proofs.replay.read_replay_topics.Goals as goal

pub returns : goal.returns
returns c = search rules
