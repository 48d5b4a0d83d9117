use Rattle.std.proofs.Common.{rules}
use Rattle.report_rows.proofs.Replayed.{counted_is}
use Rattle.report_rows.proofs.top_rows.write_counted.Goals as goal

pub returns : goal.returns
returns c = rw (counted_is c.args.key.now c.args.count c.if-count-eq0.false) c.write_count.ensures

pub returns-then-count-eq0 : goal.returns-then-count-eq0
returns-then-count-eq0 c = search rules
