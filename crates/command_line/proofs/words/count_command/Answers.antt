use Rattle.command_line.proofs.words.count_command.Goals as goal

pub returns : goal.returns
returns c = c.with_top.ensures _ (c.with_options.ensures _ c.file_command-command.ensures)
