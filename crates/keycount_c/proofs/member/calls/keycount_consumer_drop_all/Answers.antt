use Rattle.std.proofs.Common.{rules}
use Rattle.keycount_c.proofs.member.calls.keycount_consumer_drop_all.Goals as goal

pub returns-in_default : goal.returns-in_default
returns-in_default c = search rules

pub returns : goal.returns
returns c = search rules
