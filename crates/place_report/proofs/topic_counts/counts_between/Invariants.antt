use Rattle.place_report.specs.Private.KeyCounts.{AreCountsBetween}
use Rattle.place_report.proofs.topic_counts.counts_between.Given as goal

abbrev pub invariant-loop-p : goal.invariant-loop-p
invariant-loop-p l = AreCountsBetween l.logs l.from l.p l.table.counts
