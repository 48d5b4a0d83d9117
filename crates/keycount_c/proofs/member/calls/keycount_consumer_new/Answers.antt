use Rattle.std.proofs.Common.{rules}
use Rattle.keycount_c.proofs.member.calls.keycount_consumer_new.Goals as goal

pub returns-in-Some : goal.returns-in-Some
returns-in-Some c = search rules

pub returns-then-partitions-lt1 : goal.returns-then-partitions-lt1
returns-then-partitions-lt1 c = search rules

pub returns-in_default-new : goal.returns-in_default-new
returns-in_default-new c = search rules

pub returns-in-Ok-new : goal.returns-in-Ok-new
returns-in-Ok-new c = search rules

pub returns : goal.returns
returns c = search rules
