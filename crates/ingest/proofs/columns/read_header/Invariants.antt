use Rattle.std.proofs.Common.{◌≡◌}
use Rattle.ingest.specs.Private.Columns.{IsFilled}
use Rattle.ingest.proofs.columns.read_header.Given as goal

abbrev pub invariant-loop : goal.invariant-loop
invariant-loop g l = record {
  failures : g.S.Source.failures l.source ≡ g.S.Source.failures l.fn.source;
  filled : IsFilled l.windows.at_end (g.S.Source.left l.fn.source) (g.S.Source.left l.source) l.windows.window;
}
