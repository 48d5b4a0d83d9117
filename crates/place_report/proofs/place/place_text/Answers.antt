use Rattle.std.proofs.Common.{rules}
use Rattle.place_report.proofs.place.place_text.Goals as goal

pub returns-clause-report : goal.returns-clause-report
returns-clause-report g c = search rules

pub returns-clause-misplaced : goal.returns-clause-misplaced
returns-clause-misplaced g c = search rules
