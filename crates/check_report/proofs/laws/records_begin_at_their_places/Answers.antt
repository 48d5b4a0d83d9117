use Rattle.check_report.proofs.Placed.{each_at_its_place}
use Rattle.check_report.proofs.laws.records_begin_at_their_places.Goals as goal

pub returns : goal.returns
returns c = each_at_its_place
