use Rattle.world_laws.proofs.Named.{different_on, members_stay_different, opening_differs, stay_different, StayDifferent}
use Rattle.world_laws.proofs.Steps.{holds_all}
use Rattle.world_laws.proofs.laws.names_stay_different.Goals as goal

pub returns-clause-opening : goal.returns-clause-opening
returns-clause-opening c = opening_differs

pub returns-clause-kept : goal.returns-clause-kept
returns-clause-kept c w events valid = holds_all (λ commits. StayDifferent) different_on stay_different members_stay_different w events valid
