use Rattle.std.proofs.Common.{◌++◌, ℕ, List}
use Rattle.partition_log.specs.Keys.{key_at, plain}
use Rattle.partition_log.specs.Logs.{keys_of_log, place_in}
use Rattle.report_rows.specs.ReplayRows.{rows_below}
use Rattle.report_rows.specs.Rows.{HasText}
use Rattle.place_report.specs.PlaceRows.{key_row}
use Rattle.place_report.proofs.key_rows.write_rows_of_key.Given as goal

abbrev pub invariant-loop-t : goal.invariant-loop-t
invariant-loop-t l = (text : List ℕ) → HasText l.fn.writer text → HasText l.writer (text
    ++ rows_below l.t (λ t. let p = place_in l.logs (t, key_at l.logs.keys l.id) in
    key_row l.topics (key_at l.logs.keys l.id) p (plain (keys_of_log l.logs p) (key_at l.logs.keys l.id))))
