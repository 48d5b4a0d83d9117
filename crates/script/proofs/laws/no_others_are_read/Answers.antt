use Rattle.script.proofs.ReadLemmas.{read_is_written}
use Rattle.script.proofs.laws.no_others_are_read.Goals as goal

pub returns : goal.returns
returns c = read_is_written
