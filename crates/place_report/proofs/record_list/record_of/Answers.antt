use Rattle.std.proofs.Common.{arith}
use Rattle.std.proofs.lemmas.Grind.{common_steps}
use Rattle.place_report.proofs.record_list.record_of.Goals as goal

pub returns-clause-key : goal.returns-clause-key
returns-clause-key c = grind (arith, common_steps)
