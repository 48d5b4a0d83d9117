use Rattle.std.proofs.Common.{◌≡◌, ℕ, drop}
use Rattle.csv_ingest.specs.Starts.{starts_from}
use Rattle.csv_ingest.specs.declared.stand.Stand.TheVariants as k
use Rattle.check_report.proofs.places.record_start.Given as goal

abbrev pub invariant-loop-i : goal.invariant-loop-i
invariant-loop-i l = (delimiter : ℕ) → starts_from delimiter k.Record l.at (drop l.at l.file) ≡ starts_from delimiter k.Record l.i (drop l.i l.file)
