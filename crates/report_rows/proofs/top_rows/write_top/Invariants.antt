use Rattle.std.proofs.Common.{◌++◌, ℕ, List}
use Rattle.report_rows.specs.Rows.{HasText}
use Rattle.report_rows.proofs.Ranking.{rows_to}
use Rattle.report_rows.proofs.top_rows.write_top.Given as goal

abbrev pub invariant-loop-i : goal.invariant-loop-i
invariant-loop-i g l = (text : List ℕ) → HasText l.fn.writer text
    → HasText l.writer (text ++ rows_to (g.K.KeyList.keys l.keys) l.ranked.items l.i)
