-- The records that are kept of a file.
use Rattle.std.specs.Prelude.{ℕ, All, List}
use Rattle.key_index.specs.Keys.{Key}
use Rattle.key_counts.specs.Counts.{Entries}
use Rattle.key_counts.specs.Recorded.{all_records}
use Rattle.key_counts.specs.Rounds.{AreSegmented, HaveTaken}
use Rattle.key_counts.specs.Segments.{IsSegment, keys_of}
use Rattle.key_counts.specs.declared.merging.Segment.{Segment}

-- the keys of records that workers took, chunk by chunk
abbrev pub keys_kept : List Entries → List Segment → List Key
keys_kept workers chunks = keys_of (all_records workers) chunks

-- workers took these records together, and segments have their entries
pub record AreKept (workers : List Entries) (segments chunks : List Segment) : Type 0 where
  pub parts : All (IsSegment (all_records workers)) chunks
  pub lens : List ℕ
  pub entries : AreSegmented workers segments lens
  pub so : HaveTaken (keys_kept workers chunks) (keys_of workers segments) workers
