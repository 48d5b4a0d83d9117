use Rattle.std.proofs.Common.{◌++◌, ℕ, List}
use Rattle.report_rows.specs.CountRows.{rows_between}
use Rattle.report_rows.specs.Rows.{HasText}
use Rattle.report_rows.proofs.count_rows.write_counts.Given as goal

abbrev pub invariant-loop-id : goal.invariant-loop-id
invariant-loop-id g l =
    (text : List ℕ) → HasText l.fn.writer text → HasText l.writer (text ++ rows_between (g.K.KeyList.keys l.keys) l.counts 0 l.id)
