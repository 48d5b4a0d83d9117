use Rattle.std.proofs.Common.{rules}
use Rattle.place_report.proofs.given.is_number_of.Goals as goal

pub returns : goal.returns
returns c = search rules
