-- The counters of all that was counted.
use Rattle.std.specs.Prelude.{◌≡◌, ◌<◌, ◌^◌, ℕ, Bool, List, length}
use Rattle.csv_ingest.specs.KeyFile.{Taking}
use Rattle.key_index.specs.Keys.{Key}
use Rattle.key_counts.specs.Recorded.{AreRecorded}
use Rattle.key_counts.specs.Rounds.{AreSegmented, HaveTaken}
use Rattle.key_counts.specs.Segments.{keys_of}
use Rattle.key_stream.specs.Counting.{IsCounted}
use Rattle.key_stream.specs.declared.counting.Counting.{Counting}
use Rattle.key_stream.specs.declared.tally.Counters.{Counters}

-- counters took the records of these keys, the segments have their entries, and the chunks, if codes
-- are kept, the records
pub record HaveCounted (keys : List Key) (counters : Counters) : Type 0 where
  pub few : length keys < 2 ^ 64
  pub taken : HaveTaken keys (keys_of counters.workers.items counters.segments.items)
      counters.workers.items
  pub lens : List ℕ
  pub parts : AreSegmented counters.workers.items counters.segments.items lens
  pub coded : Bool
  pub ends : List ℕ
  pub recorded : AreRecorded keys coded counters.workers.items counters.chunks.items ends

-- these counters took all records that were counted
abbrev pub AreCountersOf : Counting → Counters → Type 0
AreCountersOf counting counters =
    (delimiter : ℕ) (wanted : Taking) (header : Bool) (read : List ℕ)
    (so : IsCounted delimiter wanted header read counting)
    → (have : HaveCounted so.keys counters) × (have.coded ≡ counting.coded)
