use Rattle.std.proofs.Common.{◌≡◌, ◌++◌, [], ℕ, List, length}
use Rattle.partition_log.specs.Logs.{keys_of_log}
use Rattle.report_rows.specs.ReplayRows.{rows_below}
use Rattle.report_rows.specs.Rows.{HasText}
use Rattle.place_report.specs.PlaceRows.{partition_row}
use Rattle.place_report.specs.Private.Tallies.{AreCountsOf}
use Rattle.place_report.proofs.partition_rows.write_partitions.Given as goal

abbrev pub invariant-loop-p : goal.invariant-loop-p
invariant-loop-p g l = record {
  len : length l.counters ≡ length (g.L.LogRead.contents l.logs).keys;
  zeros : AreCountsOf [] l.counters;
  rows : (text : List ℕ) → HasText l.fn.writer text → HasText l.writer (text
      ++ rows_below l.p (λ p. partition_row l.topics p (keys_of_log (g.L.LogRead.contents l.logs) p)));
}
