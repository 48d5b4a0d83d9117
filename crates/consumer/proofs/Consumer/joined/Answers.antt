use Rattle.std.proofs.Common.{rules}
use Rattle.consumer.proofs.Consumer.joined.Goals as goal

pub returns : goal.returns
returns c = search rules
