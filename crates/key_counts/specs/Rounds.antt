-- Several workers, each of which takes any of the chunks of a file.
use Rattle.std.specs.Prelude.{◌≡◌, ◌<◌, ⊤, ℕ, All, List, [], ◌∷◌, length, sum_by}
use Rattle.key_index.specs.Keys.{Key, distinct}
use Rattle.key_counts.specs.Counts.{AreInterned, Entries, total_of}
use Rattle.key_counts.specs.Partition.{AreAll, lens_of}
use Rattle.key_counts.specs.Segments.{IsSegment, entries_of, keys_of, segments_of}
use Rattle.key_counts.specs.declared.merging.Segment.{Segment}

-- the keys of each worker's entries are among these
abbrev pub AreKnown : List Key → List Entries → Type 0
AreKnown keys [] = ⊤
AreKnown keys (worker ∷ workers) = AreInterned worker.keys keys × AreKnown keys workers

-- together workers took the records of these keys; `order` are the keys of their entries in the
-- order in which chunks brought them
pub record HaveTaken (taken order : List Key) (workers : List Entries) : Type 0 where
  pub same_order : distinct order ≡ distinct taken
  pub known : AreKnown (distinct taken) workers
  pub counted : (f : Key → ℕ) → sum_by (total_of f) workers ≡ sum_by f taken

-- segments have the entries of workers, each once, and these are their numbers; those of one worker
-- have its entries in their order
pub record AreSegmented (workers : List Entries) (segments : List Segment) (lens : List ℕ)
    : Type 0 where
  pub lens_are : lens ≡ lens_of workers
  pub parts : All (IsSegment workers) segments
  pub all : AreAll lens segments
  pub own : (w : ℕ) → w < length workers
      → keys_of workers (segments_of w segments) ≡ (entries_of workers w).keys
