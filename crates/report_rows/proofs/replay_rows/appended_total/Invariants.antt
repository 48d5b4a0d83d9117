use Rattle.std.proofs.Common.{◌≡◌}
use Rattle.lane_words.specs.Sums.{sum_below}
use Rattle.report_rows.specs.ReplayRows.{end_of}
use Rattle.report_rows.proofs.replay_rows.appended_total.Given as goal

abbrev pub invariant-loop-p : goal.invariant-loop-p
invariant-loop-p l = l.total ≡ sum_below l.p (end_of l.cluster.logs)
