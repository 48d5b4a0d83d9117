use Rattle.std.proofs.Common.{rules}
use Rattle.command_line.proofs.topics.may_follow.Goals as goal

pub returns-then-is_new : goal.returns-then-is_new
returns-then-is_new c = search rules
