use Rattle.std.proofs.Common.{◌++◌, ℕ, List}
use Rattle.report_rows.specs.ReplayRows.{rows_below}
use Rattle.report_rows.specs.Rows.{HasText}
use Rattle.place_report.specs.Private.KeyCounts.{rows_of_key}
use Rattle.place_report.proofs.key_rows.write_keys.Given as goal

abbrev pub invariant-loop-id : goal.invariant-loop-id
invariant-loop-id l = (text : List ℕ) → HasText l.fn.writer text
    → HasText l.writer (text ++ rows_below l.id (rows_of_key l.topics l.logs))
