use Rattle.command_line.proofs.words.replay_command.Goals as goal

pub returns : goal.returns
returns c = c.with_top.ensures _ (c.with_script-command.ensures _ c.new_command-command.ensures)
