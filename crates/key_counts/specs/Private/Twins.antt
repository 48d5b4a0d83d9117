-- Which entries may have a twin, and in which classes these fall.
use Rattle.std.specs.Prelude.{◌≡◌, ◌<◌, ◌≤◌, ◌+◌, ◌%◌, ◌==◌, ℕ, All, List, Vec, count_by, drop, if◌then◌else◌, length, slice_index}
use Rattle.std.specs.Global.{Global}
use Rattle.std.specs.Str.{bytes_eq}
use Rattle.key_index.specs.Keys.{Key, key_at}
use Rattle.key_index.specs.Private.KeyHash.{hash_of}
use Rattle.key_counts.specs.Counts.{Entries}
use Rattle.key_counts.specs.Private.Filter.{is_shared, mark_at, part_of}
use Rattle.key_counts.specs.Private.Hashes.{AreBelow, ArePlacedTo}
use Rattle.key_counts.specs.Private.Results.{list_of}
use Rattle.key_counts.specs.Segments.{entries_of}
use Rattle.key_counts.specs.declared.filter.Filter.{Filter}
use Rattle.key_counts.specs.declared.hashes.Placed.{Placed}
use Rattle.key_counts.specs.declared.twins.TheConstants.{CLASSES}
use Rattle.key_counts.specs.declared.twins.Twins.{Twins}

-- 0 if a key has no twin, or else 1 more than the class of its hash
unfoldable pub class_of : Filter → Key → ℕ
class_of filter key =
    if is_shared filter (hash_of filter.place.hasher key)
    then 1 + part_of (hash_of filter.place.hasher key) % CLASSES else 0

-- the same by the filter of twins
abbrev pub class_in : Twins → Key → ℕ
class_in twins key = class_of twins.filter.value key

-- a key of class 0 is among these once at most
abbrev pub IsOnce : (Key → ℕ) → List Key → Type 0
IsOnce class keys = (x : Key) → class x ≡ 0 → count_by (bytes_eq x) keys ≤ 1

-- the class of a cell of a part, from the marks of this: that of the part if several keys have the
-- cell
abbrev pub class_at : ℕ → List ℕ → ℕ → ℕ
class_at class bytes cell = if mark_at bytes cell == 2 then class else 0

-- classes of entries were written: those that were right are so still, and those of this list are
pub record AreWritten (right : ℕ → ℕ) (list : List Placed) (old new : List ℕ) : Type 0 where
  pub same : (code : ℕ) → slice_index old code ≡ right code → slice_index new code ≡ right code
  pub written : All (λ e. slice_index new e.code ≡ right e.code) list

-- the class of each of these entries' keys without so many of its first bytes
pub record AreClassesOf (class : Key → ℕ) (skip : ℕ) (entries : Entries) (classes : List ℕ)
    : Type 0 where
  pub len : length entries.keys ≤ length classes
  pub each : (code : ℕ) → code < length entries.keys
      → slice_index classes code ≡ class (drop skip (key_at entries.keys code))

-- the classes of so many entries, from where they were placed
abbrev pub AreClassesBy : Filter → List (Vec Placed Global) → ℕ → List ℕ → Type 0
AreClassesBy filter lists count classes =
    (skip : ℕ) (entries : Entries) → length entries.keys ≡ count
    → ArePlacedTo filter.place skip entries count lists
    → AreClassesOf (class_of filter) skip entries classes

-- the same of the worker of this index
abbrev pub AreClassesIn : Filter → List Entries → List (Vec (Vec Placed Global) Global) → ℕ
    → List ℕ → Type 0
AreClassesIn filter workers placed w classes =
    AreClassesBy filter (list_of placed w) (length (entries_of workers w).keys) classes

-- the codes of placed entries are below the number of their worker's entries
pub record AreWithin (workers : List Entries) (placed : List (Vec (Vec Placed Global) Global))
    : Type 0 where
  pub len : length placed ≡ length workers
  pub below : (w : ℕ) → w < length workers
      → AreBelow (length (entries_of workers w).keys) (list_of placed w)

-- the list of this worker has the classes of these entries
pub record HasClassesOf (twins : Twins) (skip : ℕ) (entries : Entries) (worker : ℕ) : Type 0 where
  pub within : worker < length twins.classes.items
  pub classes : AreClassesOf (class_in twins) skip entries (list_of twins.classes.items worker)

-- there are the classes of all entries of these workers
pub record HasClasses (twins : Twins) (skip : ℕ) (workers : List Entries) : Type 0 where
  pub len : length twins.classes.items ≡ length workers
  pub each : (w : ℕ) → w < length workers
      → AreClassesOf (class_in twins) skip (entries_of workers w)
      (list_of twins.classes.items w)
