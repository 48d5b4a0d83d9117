use Rattle.std.proofs.Common.{refl}
use Rattle.place_report.proofs.Read.{column-alone}
use Rattle.place_report.proofs.given.options_for.Goals as goal

pub returns-clause-records : goal.returns-clause-records
returns-clause-records c file = column-alone _ c.args.given file c.new.ensures.items refl
