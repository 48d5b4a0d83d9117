use Rattle.command_line.proofs.words.draw_command.Goals as goal

pub returns : goal.returns
returns c = c.with_script.ensures _ c.new_command-command.ensures
