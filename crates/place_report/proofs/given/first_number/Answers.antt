use Rattle.std.proofs.Common.{rules}
use Rattle.place_report.proofs.given.first_number.Goals as goal

pub returns-then-header : goal.returns-then-header
returns-then-header c = search rules
