use Rattle.std.proofs.Common.{◌≡◌, ◌∷◌, drop}
use Rattle.csv_ingest.specs.Starts.{starts_from}
use Rattle.csv_ingest.specs.declared.stand.Stand.TheVariants as k
use Rattle.check_report.proofs.places.record_end.Given as goal

abbrev pub invariant-loop-i : goal.invariant-loop-i
invariant-loop-i l = starts_from l.delimiter k.Record l.start (drop l.start l.file) ≡ l.start ∷ starts_from l.delimiter l.stand l.i (drop l.i l.file)
