use Rattle.group_laws.proofs.OtherLemmas.{sync_marks}
use Rattle.group_laws.proofs.laws.sync_sets_the_flag.Goals as goal

pub returns : goal.returns
returns c = sync_marks
