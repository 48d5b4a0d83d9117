use Rattle.std.proofs.Common.{◌≡◌, ◌+◌, Bor, List, ℕ, Some, length}
use Rattle.csv_ingest.specs.KeyFile.{after_keys, keys_from}
use Rattle.csv_ingest.specs.Records.{ReadsRecords, records_left}
use Rattle.csv_ingest.specs.Private.Wanted.{taking}
use Rattle.csv_ingest.proofs.whole.take_rest.Given as goal

abbrev pub invariant-loop-nth : goal.invariant-loop-nth
invariant-loop-nth g l = record {
  reads : ReadsRecords (λ (s : Bor (List ℕ)). Some s.now) l.reader;
  left : (keys : List (List ℕ)) × (l.nth ≡ l.from + length keys) × g.K.KeySink.Takes l.fn.keys keys l.keys
      × (keys_from (taking l.wanted) l.width l.from (records_left (λ (s : Bor (List ℕ)). Some s.now) l.fn.reader) ≡ after_keys keys (keys_from (taking l.wanted) l.width l.nth (records_left (λ (s : Bor (List ℕ)). Some s.now) l.reader)));
}
