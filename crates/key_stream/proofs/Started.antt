-- Nothing is counted yet.
use Rattle.std.proofs.Common.{◌≡◌, ℕ, List, [], Bool, None, replicate}
use Rattle.csv_ingest.specs.KeyFile.{Taking}
use Rattle.csv_ingest.proofs.Rounds.{nothing_read}
use Rattle.key_counts.specs.Counts.{Entries, no_entries}
use Rattle.key_counts.specs.declared.merging.Segment.{Segment}
use Rattle.key_counts.proofs.Recorded.{start-recorded}
use Rattle.key_counts.proofs.Segmented.{start-segmented, start-taken}
use Rattle.key_stream.specs.Counting.{IsCountedBy}
use Rattle.key_stream.specs.declared.round.Round.{Round}

pub starts : (delimiter : ℕ) (wanted : Taking) (header coded : Bool) (n : ℕ) (round : Round) (workers : List Entries) (segments : List Segment) (marks : List ℕ) (flag : Bool) (chunks : List Segment) (ends : List ℕ)
    → workers ≡ replicate n (no_entries coded) → segments ≡ [] → marks ≡ replicate n 0 → chunks ≡ [] → ends ≡ replicate n 0 → flag ≡ coded → round.width ≡ None → round.keys ≡ 0
    → IsCountedBy delimiter wanted header [] round workers segments marks flag chunks ends
starts delimiter wanted header coded n round workers segments marks flag chunks ends is none zeros empty nothing same width keys = record {
  keys = [];
  so = record { records = 0; so = rw width (nothing_read delimiter wanted header); counted = keys };
  taken = rw (is, none) (start-taken coded n);
  parts = rw (is, none, zeros) (start-segmented coded n);
  recorded = rw (is, empty, nothing, same) (start-recorded coded n);
}
