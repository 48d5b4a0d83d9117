use Rattle.std.proofs.Common.{rules}
use Rattle.replay_steps.proofs.walk.WalkObserver.see.Goals as goal

pub returns : goal.returns
returns g c =
    record {
      line_is = search rules;
      next_is = search rules;
      shown = search rules;
    }
