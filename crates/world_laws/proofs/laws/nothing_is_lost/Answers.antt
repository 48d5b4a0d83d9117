use Rattle.world_laws.specs.Growth.{OnlyGrows}
use Rattle.world_laws.proofs.Grown.{grows, grows_on, members_grow}
use Rattle.world_laws.proofs.Steps.{holds_all}
use Rattle.world_laws.proofs.laws.nothing_is_lost.Goals as goal

pub returns : goal.returns
returns c = λ w events valid. holds_all (λ commits. OnlyGrows) grows_on grows members_grow w events valid
