use Rattle.std.proofs.Common.{rules}
use Rattle.report_rows.proofs.rows.text_of.Goals as goal

pub returns : goal.returns
returns c = search rules
