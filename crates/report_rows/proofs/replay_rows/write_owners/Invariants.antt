use Rattle.std.proofs.Common.{◌++◌, ℕ, List}
use Rattle.report_rows.specs.Rows.{HasText}
use Rattle.report_rows.specs.ReplayRows.{owner_row, rows_below}
use Rattle.report_rows.proofs.replay_rows.write_owners.Given as goal

abbrev pub invariant-loop-p : goal.invariant-loop-p
invariant-loop-p l = (text : List ℕ) → HasText l.fn.writer text
    → HasText l.writer (text ++ rows_below l.p (owner_row l.topics l.cluster.group))
