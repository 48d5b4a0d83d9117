use Rattle.world_laws.proofs.Refused.{refused_kept}
use Rattle.world_laws.proofs.laws.refused_events_change_nothing.Goals as goal

pub returns : goal.returns
returns c = λ w event why. refused_kept w event why
