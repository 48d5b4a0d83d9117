use Rattle.replay_steps.proofs.Lines.{SoFar}
use Rattle.replay_steps.proofs.perform.perform_lines.Given as goal

abbrev pub invariant-loop-line : goal.invariant-loop-line
invariant-loop-line g l = SoFar g.O.StepObserver.Shows l.batch l.fn.world l.fn.observer l.lines l.line-index l.world l.walk.observer
