use Rattle.std.proofs.Common.{rules}
use Rattle.command_line.proofs.words.usage_of.Goals as goal

pub returns : goal.returns
returns c = search rules
