use Rattle.std.proofs.Common.{◌≤◌, ◌-◌, length}
use Rattle.csv_ingest.specs.Private.ByteSearch.{HasNone}
use Rattle.csv_ingest.proofs.field_ends.FieldEnds.look_from.Given as goal

abbrev pub invariant-loop-at : goal.invariant-loop-at
invariant-loop-at l = record {
  order : l.fn.start ≤ l.at;
  within : l.at ≤ length l.text;
  none : HasNone l.delimiter 13 10 l.text l.fn.start l.at;
}

abbrev pub decreases-loop-at : goal.decreases-loop-at
decreases-loop-at l = length l.text - l.at
