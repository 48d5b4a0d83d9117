use Rattle.group_laws.proofs.NameLemmas.{name_has_number}
use Rattle.group_laws.proofs.laws.name_has_its_last_number.Goals as goal

pub returns : goal.returns
returns c = name_has_number
