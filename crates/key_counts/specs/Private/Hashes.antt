-- The entries of several workers, each in the part of its key's cell.
use Rattle.std.specs.Prelude.{◌≡◌, ◌<◌, ◌==◌, ℕ, All, List, Vec, drop, filter, length, map}
use Rattle.std.specs.Global.{Global}
use Rattle.std.specs.List.{range_with_len}
use Rattle.key_index.specs.Keys.{key_at}
use Rattle.key_index.specs.Private.KeyHash.{hash_of}
use Rattle.key_index.specs.declared.key_hash.KeyHash.{KeyHash}
use Rattle.key_counts.specs.Counts.{Entries}
use Rattle.key_counts.specs.Private.Filter.{cell_of, part_of}
use Rattle.key_counts.specs.Private.Results.{AreMade, list_of}
use Rattle.key_counts.specs.Segments.{entries_of}
use Rattle.key_counts.specs.declared.filter.Place.{Place}
use Rattle.key_counts.specs.declared.filter.TheConstants.{PARTS}
use Rattle.key_counts.specs.declared.hashes.Placed.{Placed}

-- the hash of an entry's key without so many of its first bytes
abbrev pub hash_at : KeyHash → ℕ → Entries → ℕ → ℕ
hash_at hasher skip entries code = hash_of hasher (drop skip (key_at entries.keys code))

-- an entry with the cell of its key
abbrev pub placed_at : Place → ℕ → Entries → ℕ → Placed
placed_at place skip entries code =
    record { cell = cell_of place (hash_at place.hasher skip entries code); code = code }

-- those of the first so many entries whose cells are in a part
unfoldable pub placed_in : Place → ℕ → Entries → ℕ → ℕ → List Placed
placed_in place skip entries count part =
    map (placed_at place skip entries)
    (filter (λ code. part_of (hash_at place.hasher skip entries code) == part)
    (range_with_len 0 count))

-- a list of these for each part
abbrev pub ArePlacedTo : Place → ℕ → Entries → ℕ → List (Vec Placed Global) → Type 0
ArePlacedTo place skip entries count lists =
    AreMade PARTS (λ part list. list ≡ placed_in place skip entries count part) lists

-- the same of all entries of the worker of this index
abbrev pub ArePlacedIn : Place → ℕ → List Entries → ℕ → List (Vec Placed Global) → Type 0
ArePlacedIn place skip workers w lists =
    ArePlacedTo place skip (entries_of workers w) (length (entries_of workers w).keys) lists

-- the same for each worker
abbrev pub ArePlaced : Place → ℕ → List Entries → List (Vec (Vec Placed Global) Global) → Type 0
ArePlaced place skip workers placed =
    AreMade (length workers) (ArePlacedIn place skip workers) placed

-- the codes of all parts are below this
abbrev pub AreBelow : ℕ → List (Vec Placed Global) → Type 0
AreBelow count lists = (part : ℕ) → All (λ e. e.code < count) (list_of lists part)
