use Rattle.std.proofs.Common.{◌≡◌, take}
use Rattle.csv_ingest.specs.Stand.{stand_after}
use Rattle.csv_ingest.proofs.cuts.open_cut.Given as goal

abbrev pub invariant-loop-i : goal.invariant-loop-i
invariant-loop-i l = l.stand ≡ stand_after l.delimiter l.fn.from (take l.i l.bytes)
