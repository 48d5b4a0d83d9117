-- The records that several workers took, in the order in which the chunks of a file brought them.
use Rattle.std.specs.Prelude.{◌≡◌, ℕ, All, Bool, true, false, List, [], map}
use Rattle.key_index.specs.Keys.{Key}
use Rattle.key_counts.specs.Counts.{Entries, records_of}
use Rattle.key_counts.specs.Partition.{lens_of}
use Rattle.key_counts.specs.Segments.{IsSegment, keys_of}
use Rattle.key_counts.specs.declared.merging.Segment.{Segment}

-- a worker's records that have a code, each as an entry of its own
abbrev pub as_records : Entries → Entries
as_records entries = record { keys = records_of entries; counts = []; coded = false; codes = [] }

-- the same of several workers
abbrev pub all_records : List Entries → List Entries
all_records workers = map as_records workers

-- the code of each record is kept, or none is
abbrev pub AreCoded : Bool → List Entries → Type 0
AreCoded coded workers = All (λ (worker : Entries). worker.coded ≡ coded) workers

-- chunks are parts of the records of workers, which have so many; if the codes are kept, they are
-- the records that were taken, in their order
pub record AreRecorded (taken : List Key) (coded : Bool) (workers : List Entries)
    (chunks : List Segment) (ends : List ℕ) : Type 0 where
  pub flags : AreCoded coded workers
  pub ends_are : ends ≡ lens_of (all_records workers)
  pub parts : All (IsSegment (all_records workers)) chunks
  pub all : coded ≡ true → keys_of (all_records workers) chunks ≡ taken
