use Rattle.check_report.proofs.Placed.{all_placed}
use Rattle.check_report.proofs.laws.a_place_a_record.Goals as goal

pub returns : goal.returns
returns c = all_placed
