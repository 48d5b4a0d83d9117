use Rattle.std.proofs.Common.{◌≡◌, ◌≤◌, ◌+◌, ◌-◌, ℕ, List, length}
use Rattle.csv_ingest.specs.Private.FieldEnds.{AreEnds}
use Rattle.csv_ingest.proofs.Fields.{Reads}
use Rattle.csv_ingest.proofs.scan.scan.Given as goal

abbrev pub invariant-loop-at : goal.invariant-loop-at
invariant-loop-at g l = record {
  few : l.taken ≤ l.at;
  count : l.row.count ≤ l.at;
  far : l.at ≤ length l.text + 1;
  ends : AreEnds l.delimiter l.text l.ends;
  reads : (keys : List (List ℕ)) × (l.taken ≡ length keys) × g.K.KeySink.Takes l.fn.keys keys l.keys × Reads l.delimiter l.text l.column l.width keys (l.taken + 1) l.row l.at;
}

abbrev pub decreases-loop-at : goal.decreases-loop-at
decreases-loop-at g l = length l.text - l.at
