use Rattle.std.proofs.Common.{rules}
use Rattle.consumer.proofs.Consumer.send.Goals as goal

pub returns : goal.returns
returns g c = search rules
