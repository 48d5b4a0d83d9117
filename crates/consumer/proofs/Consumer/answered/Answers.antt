use Rattle.std.proofs.Common.{rules}
use Rattle.consumer.proofs.Consumer.answered.Goals as goal

pub returns-in-Err-OffsetMismatch : goal.returns-in-Err-OffsetMismatch
returns-in-Err-OffsetMismatch c = search rules

pub returns-in-Err-UnknownMember : goal.returns-in-Err-UnknownMember
returns-in-Err-UnknownMember c = search rules
