use Rattle.std.proofs.Common.{◌≡◌, ◌≤◌, drop}
use Rattle.csv_ingest.specs.Stand.{stand_after}
use Rattle.csv_ingest.specs.declared.stand.Stand.TheVariants as k
use Rattle.check_report.specs.Warnings.{last_field_from}
use Rattle.check_report.proofs.warnings.open_quote.Given as goal

abbrev pub invariant-loop-i : goal.invariant-loop-i
invariant-loop-i l = record {
  field : last_field_from l.delimiter k.Record l.mark l.mark (drop l.mark l.file) ≡ last_field_from l.delimiter l.stand l.start l.i (drop l.i l.file);
  after : stand_after l.delimiter k.Record (drop l.mark l.file) ≡ stand_after l.delimiter l.stand (drop l.i l.file);
  low : l.start ≤ l.i;
}
