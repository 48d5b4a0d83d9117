use Rattle.replay_steps.proofs.Lines.{line_ends}
use Rattle.replay_steps.proofs.laws.a_line_ends_with_its_last_step.Goals as goal

pub returns : goal.returns
returns c = line_ends
