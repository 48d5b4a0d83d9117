use Rattle.command_line.specs.CommandLine.{code_argument}
use Rattle.command_line.proofs.words.explain_command.Goals as goal

pub returns : goal.returns
returns c = c.with_arg.ensures _ code_argument c.new_command-command.ensures c.code_argument.ensures.rule
