use Rattle.std.proofs.Common.{◌≡◌}
use Rattle.csv_ingest.specs.Private.Wanted.{taking}
use Rattle.ingest.specs.Private.Counted.{IsChecking}
use Rattle.ingest.proofs.counted.count_windows.Given as goal

abbrev pub invariant-loop : goal.invariant-loop
invariant-loop g l = record {
  failures : g.S.Source.failures l.source ≡ g.S.Source.failures l.fn.source;
  coded : l.counting.coded ≡ l.fn.counting.coded;
  checking : IsChecking l.plan.layout.delimiter (taking l.plan.layout.wanted.now) l.plan.layout.header l.plan.counts.now l.plan.has_topics l.windows.at_end l.fn.windows.window l.fn.windows.at_end (g.S.Source.left l.fn.source) (g.S.Source.left l.source) l.windows.window l.counting l.check;
}
