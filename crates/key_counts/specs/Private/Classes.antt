-- The entries of a class, in the order of the segments.
use Rattle.std.specs.Prelude.{◌≡◌, ◌<◌, ◌+◌, ◌-◌, ◌++◌, ℕ, All, Bool, List, [], ◌∷◌, filter, length, map, slice_index_or, take}
use Rattle.key_index.specs.Keys.{Key, distinct, id_of, with_key}
use Rattle.key_counts.specs.Counts.{Entries}
use Rattle.key_counts.specs.Partition.{HasCounts}
use Rattle.key_counts.specs.Private.Twins.{HasClasses, class_in}
use Rattle.key_counts.specs.Private.Walks.{AreNext, AreTotalled, IsAt, is_of, kept}
use Rattle.key_counts.specs.Segments.{IsSegment, counts_of, keys_behind, keys_of}
use Rattle.key_counts.specs.declared.classes.Class.{Class}
use Rattle.key_counts.specs.declared.classes.Members.{Members}
use Rattle.key_counts.specs.declared.classes.Origin.{Origin}
use Rattle.key_counts.specs.declared.merging.Segment.{Segment}
use Rattle.key_counts.specs.declared.twins.TheConstants.{CLASSES}
use Rattle.key_counts.specs.declared.walk.Position.{Position}

-- these are segments of workers whose entries have counts and classes
pub record IsOrigin (origin : Origin) (segments : List Segment) : Type 0 where
  pub counted : All HasCounts origin.workers.now
  pub within : All (IsSegment origin.workers.now) segments
  pub classes : HasClasses origin.twins.now origin.skip origin.workers.now

-- there are none yet
pub record IsNoMember (m : Members) : Type 0 where
  pub keys : m.keys ≡ []
  pub ids : m.ids.items ≡ []
  pub counts : m.counts.items ≡ []
  pub starts : m.starts.items ≡ []

-- of the first k entries those with a key that passes came
pub record AreMembers (p : Key → Bool) (all : List Key) (counts : List ℕ) (k : ℕ) (m : Members)
    : Type 0 where
  pub keys : m.keys ≡ distinct (filter p (take k all))
  pub ids : m.ids.items ≡ map (id_of (distinct (filter p all))) (filter p (take k all))
  pub took : m.counts.items ≡ kept p (take k all) (take k counts)

-- an entry is taken
pub record TakesMember (key : Key) (n : ℕ) (old new : Members) : Type 0 where
  pub keys : new.keys ≡ with_key old.keys key
  pub ids : new.ids.items ≡ old.ids.items ++ id_of old.keys key ∷ []
  pub counts : new.counts.items ≡ old.counts.items ++ n ∷ []
  pub starts : new.starts ≡ old.starts

-- those of a segment are taken that are of a class
abbrev pub TakesMembers : (Key → ℕ) → ℕ → ℕ → Entries → Segment → Members → Members → Type 0
TakesMembers class c skip entries s old new =
    (all : List Key) (counts : List ℕ) (k : ℕ) → length counts ≡ length all
    → AreNext skip entries s all counts k
    → AreMembers (is_of class c) all counts k old
    → AreMembers (is_of class c) all counts (k + (s.to - s.from)) new

-- how many entries the first segments have
abbrev pub len_before : List Entries → List Segment → ℕ → ℕ
len_before workers segments i = length (keys_of workers (take i segments))

-- how far the entries that pass are merged before each of the first segments
pub record AreStarts (p : Key → Bool) (skip : ℕ) (workers : List Entries) (segments : List Segment)
    (count : ℕ) (starts : List Position) : Type 0 where
  pub len : length starts ≡ count
  pub each : (i : ℕ) (d : Position) → i < count
      → IsAt p (keys_behind skip workers segments) (len_before workers segments i)
      (slice_index_or starts i d)

-- all entries of a class came
pub record AreAllMembers (origin : Origin) (segments : List Segment) (c : ℕ) (m : Members)
    : Type 0 where
  pub ids : m.ids.items ≡ map (id_of (distinct (filter (is_of (class_in origin.twins.now) c)
      (keys_behind origin.skip origin.workers.now segments))))
      (filter (is_of (class_in origin.twins.now) c)
      (keys_behind origin.skip origin.workers.now segments))
  pub keys : m.keys ≡ distinct (filter (is_of (class_in origin.twins.now) c)
      (keys_behind origin.skip origin.workers.now segments))
  pub counts : m.counts.items ≡ kept (is_of (class_in origin.twins.now) c)
      (keys_behind origin.skip origin.workers.now segments)
      (counts_of origin.workers.now segments)
  pub starts : AreStarts (is_of (class_in origin.twins.now) c) origin.skip origin.workers.now
      segments (length segments + 1) m.starts.items

-- the entries of a class are merged
pub record IsClass (class : Key → ℕ) (skip : ℕ) (workers : List Entries) (segments : List Segment)
    (c : ℕ) (merged : Class) : Type 0 where
  pub totals : AreTotalled (is_of class c) (keys_behind skip workers segments)
      (counts_of workers segments) merged.totals
  pub starts : AreStarts (is_of class c) skip workers segments (length segments + 1)
      merged.starts.items

-- the entries of each class are merged
abbrev pub AreClassesMade : (Key → ℕ) → ℕ → List Entries → List Segment → List Class → Type 0
AreClassesMade class skip workers segments classes =
    (i : ℕ) (d : Class) → i < CLASSES
    → IsClass class skip workers segments i (slice_index_or classes i d)
