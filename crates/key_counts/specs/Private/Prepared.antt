-- Entries that can be walked over, in parts.
use Rattle.std.specs.Prelude.{◌≡◌, ◌<◌, ◌≤◌, ◌+◌, ℕ, List, All, length, slice_index_or, take}
use Rattle.key_index.specs.Keys.{Key, distinct}
use Rattle.key_counts.specs.Counts.{Entries}
use Rattle.key_counts.specs.Partition.{HasCounts}
use Rattle.key_counts.specs.Private.Classes.{AreStarts, len_before}
use Rattle.key_counts.specs.Private.Twins.{HasClasses, class_in}
use Rattle.key_counts.specs.Private.Walks.{AreAt, AreClasses, is_of}
use Rattle.key_counts.specs.Segments.{IsSegment, counts_of, entries_of, keys_behind, totals_of}
use Rattle.key_counts.specs.declared.classes.Class.{Class}
use Rattle.key_counts.specs.declared.merging.Prepared.{Prepared}
use Rattle.key_counts.specs.declared.merging.Segment.{Segment}
use Rattle.key_counts.specs.declared.merging.Start.{Start}
use Rattle.key_counts.specs.declared.twins.TheConstants.{CLASSES}
use Rattle.key_counts.specs.declared.walk.Position.{Position}

-- the workers with all entries
abbrev pub whole_of : Prepared → List Entries
whole_of m = m.whole.value.items

-- the keys of all entries, and their counts
abbrev pub all_keys : Prepared → List Key
all_keys m = keys_behind m.skip (whole_of m) m.segments.items

abbrev pub all_counts : Prepared → List ℕ
all_counts m = counts_of (whole_of m) m.segments.items

-- how many entries the first segments have
abbrev pub entries_before : Prepared → ℕ → ℕ
entries_before m i = len_before (whole_of m) m.segments.items i

-- there is what a walk over these entries needs
pub record IsPrepared (m : Prepared) : Type 0 where
  pub counted : All HasCounts (whole_of m)
  pub segments : All (IsSegment (whole_of m)) m.segments.items
  pub own : HasClasses m.twins m.skip (whole_of m)
  pub bound : (x : Key) → class_in m.twins x ≤ CLASSES
  pub classes : AreClasses (class_in m.twins) (all_keys m) (all_counts m) m.classes.items
  pub starts : (c : ℕ) (d : Class) → c < CLASSES
      → AreStarts (is_of (class_in m.twins) c) m.skip (whole_of m) m.segments.items
      (length m.segments.items + 1) (slice_index_or m.classes.items c d).starts.items

-- how far the entries of each class are merged before a segment
abbrev pub ArePositionsAt : Prepared → ℕ → List Position → Type 0
ArePositionsAt m segment positions =
    AreAt (class_in m.twins) (all_keys m) (entries_before m segment) positions

-- these are the first of the entries
pub record AreFirstOf (whole now : Entries) : Type 0 where
  pub keys : now.keys ≡ take (length now.keys) whole.keys
  pub counts : now.counts ≡ take (length now.keys) whole.counts

-- the entries of the first so many segments are left
pub record HasLeft (m : Prepared) (count : ℕ) : Type 0 where
  pub len : length m.workers.items ≡ length (whole_of m)
  pub first : (w : ℕ) → w < length m.workers.items
      → AreFirstOf (entries_of (whole_of m) w) (entries_of m.workers.items w)
  pub within : (i : ℕ) (d : Segment) → i < count → i < length m.segments.items
      → (slice_index_or m.segments.items i d).to
      ≤ length (entries_of m.workers.items (slice_index_or m.segments.items i d).worker).keys

-- the first segments have no more than so many of a worker's entries
abbrev pub HoldsFirst : List Segment → ℕ → ℕ → ℕ → Type 0
HoldsFirst segments end worker len = (i : ℕ) (d : Segment) → i < end → i < length segments
    → (slice_index_or segments i d).worker ≡ worker → (slice_index_or segments i d).to ≤ len

-- all is the same but how many of their entries the workers have left
pub record IsSameBut (old new : Prepared) : Type 0 where
  pub whole : new.whole ≡ old.whole
  pub segments : new.segments ≡ old.segments
  pub skip : new.skip ≡ old.skip
  pub twins : new.twins ≡ old.twins
  pub classes : new.classes ≡ old.classes

-- the distinct keys before a start, and their totals
abbrev pub keys_before : Prepared → Start → List Key
keys_before m start = distinct (take (entries_before m start.segment) (all_keys m))

abbrev pub totals_before : Prepared → Start → List ℕ
totals_before m start = totals_of (keys_before m start) (all_keys m) (all_counts m)

-- a walk can begin or end here
abbrev pub IsBound : Prepared → Start → Type 0
IsBound m start = start.segment ≤ length m.segments.items

-- starts of parts of the first so many segments, which follow each other
pub record AreStartsOf (m : Prepared) (to : ℕ) (starts : List Start) : Type 0 where
  pub each : All (IsBound m) starts
  pub below : All (λ start. start.segment ≤ to) starts
  pub rise : (i : ℕ) (d : Start) → i + 1 < length starts
      → (slice_index_or starts i d).segment ≤ (slice_index_or starts (i + 1) d).segment
  pub first : (d : Start) → 0 < length starts → (slice_index_or starts 0 d).segment ≡ 0
  pub none : length starts ≡ 0 → to ≡ 0

-- starts of parts of all segments, and the end of the last
pub record AreBounds (m : Prepared) (bounds : List Start) : Type 0 where
  pub starts : AreStartsOf m (length m.segments.items) bounds
  pub some : 0 < length bounds
  pub last : (i : ℕ) (d : Start) → i + 1 ≡ length bounds
      → (slice_index_or bounds i d).segment ≡ length m.segments.items
