use Rattle.std.proofs.Common.{◌≡◌, take}
use Rattle.csv_ingest.specs.Stand.{stand_after}
use Rattle.csv_ingest.specs.declared.stand.Stand.TheVariants as k
use Rattle.csv_ingest.proofs.cuts.synced_cut.Given as goal

abbrev pub invariant-loop-i : goal.invariant-loop-i
invariant-loop-i l = record {
  fresh : l.fresh ≡ stand_after l.delimiter k.Record (take l.i l.bytes);
  bare : l.bare ≡ stand_after l.delimiter k.Bare (take l.i l.bytes);
  quoted : l.quoted ≡ stand_after l.delimiter k.Quoted (take l.i l.bytes);
}
