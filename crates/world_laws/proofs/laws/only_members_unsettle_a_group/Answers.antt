use Rattle.world_laws.proofs.Settled.{settled_on, stays_settled, StaysSettled}
use Rattle.world_laws.proofs.Steps.{kept_all}
use Rattle.world_laws.proofs.laws.only_members_unsettle_a_group.Goals as goal

pub returns : goal.returns
returns c = λ w events valid all. kept_all (λ commits. StaysSettled) settled_on stays_settled w events valid all
