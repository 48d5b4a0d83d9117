use Rattle.csv_ingest.specs.Private.ByteSearch.{HasNone}
use Rattle.csv_ingest.proofs.byte_search.first_by_bytes.Given as goal

abbrev pub invariant-loop-i : goal.invariant-loop-i
invariant-loop-i l = record {
  none : HasNone l.a l.b l.c l.text l.at l.i;
}
