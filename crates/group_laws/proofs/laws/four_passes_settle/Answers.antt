use Rattle.group_laws.proofs.FourPasses.{four_passes}
use Rattle.group_laws.proofs.laws.four_passes_settle.Goals as goal

pub returns : goal.returns
returns c = four_passes
