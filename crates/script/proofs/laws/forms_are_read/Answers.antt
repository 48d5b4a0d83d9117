use Rattle.script.proofs.FormLemmas.{written_is_read}
use Rattle.script.proofs.laws.forms_are_read.Goals as goal

pub returns : goal.returns
returns c = written_is_read
