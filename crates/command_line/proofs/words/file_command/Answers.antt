use Rattle.std.proofs.Common.{codes}
use Rattle.command_line.specs.CommandLine.{path}
use Rattle.command_line.proofs.words.file_command.Goals as goal

pub returns : goal.returns
returns c = c.with_arg.ensures _ (path (codes "file")) c.new_command-command.ensures c.file_path.ensures.rule
