use Rattle.std.proofs.Common.{◌≡◌, ◌≤◌, length}
use Rattle.csv_ingest.specs.Stand.{stand_after}
use Rattle.csv_ingest.proofs.stand.stand_behind.Given as goal

abbrev pub invariant-runs : goal.invariant-runs
invariant-runs l = record {
  within : length l.rest ≤ length l.fn.bytes;
  same : stand_after l.delimiter l.fn.from l.fn.bytes ≡ stand_after l.delimiter l.stand l.rest;
}

abbrev pub decreases-runs : goal.decreases-runs
decreases-runs l = length l.rest
