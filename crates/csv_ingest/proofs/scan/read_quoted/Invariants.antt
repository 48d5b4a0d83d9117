use Rattle.std.proofs.Common.{◌≤◌, ◌-◌, length}
use Rattle.csv_ingest.specs.Private.FieldEnds.{AreEnds}
use Rattle.csv_ingest.proofs.Fields.{InQuotes}
use Rattle.csv_ingest.proofs.scan.read_quoted.Given as goal

abbrev pub invariant-quotes : goal.invariant-quotes
invariant-quotes l = record {
  low : l.start ≤ l.at;
  within : l.at ≤ length l.text;
  ends : AreEnds l.delimiter l.text l.ends;
  reads : InQuotes l.delimiter l.text l.start l.at l.wanted l.fn.key.items l.key.items;
}

abbrev pub decreases-quotes : goal.decreases-quotes
decreases-quotes l = length l.text - l.at
