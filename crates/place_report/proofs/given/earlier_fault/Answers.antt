use Rattle.std.proofs.Common.{rules}
use Rattle.place_report.proofs.given.earlier_fault.Goals as goal

pub returns-then-record_number : goal.returns-then-record_number
returns-then-record_number c = search rules
