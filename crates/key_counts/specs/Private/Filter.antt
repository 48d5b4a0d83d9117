-- The marks of cells: which keys may have a twin.
use Rattle.std.specs.Prelude.{◌≡◌, ◌<◌, ◌==◌, ◌/◌, ◌%◌, ◌*◌, ◌^◌, ℕ, Bool, List, Vec, bit_and, count_by, flat_map, length, map, min, slice_index, slice_index_or, vec_items}
use Rattle.std.specs.Global.{Global}
use Rattle.key_counts.specs.Private.Results.{AreMade, list_of}
use Rattle.key_counts.specs.declared.filter.Filter.{Filter}
use Rattle.key_counts.specs.declared.filter.Place.{Place}
use Rattle.key_counts.specs.declared.filter.TheConstants.{ALL_SEVERAL, PARTS}
use Rattle.key_counts.specs.declared.hashes.Placed.{Placed}

-- the part of the cell of a hash, and the index of the cell there
abbrev pub part_of : ℕ → ℕ
part_of hash = hash / 2 ^ 27 % PARTS

abbrev pub cell_of : Place → ℕ → ℕ
cell_of place hash = bit_and hash place.mask

-- the mark of a cell in the byte that has it: a byte has the marks of four cells
abbrev pub mark_in : ℕ → ℕ → ℕ
mark_in byte cell = byte / 2 ^ (2 * (cell % 4)) % 4

-- how many of these entries' cells each cell is, 2 for two and more
abbrev pub AreMarked : List ℕ → List ℕ → Type 0
AreMarked cells bytes = (cell : ℕ) → cell / 4 < length bytes
    → mark_in (slice_index bytes (cell / 4)) cell ≡ min 2 (count_by (λ c. c == cell) cells)

-- the cells of placed entries
abbrev pub cells_in : List Placed → List ℕ
cells_in list = map (λ e. e.cell) list

-- the cells of all workers' entries in a part
abbrev pub cells_of : List (Vec (Vec Placed Global) Global) → ℕ → List ℕ
cells_of workers part = flat_map (λ lists. cells_in (list_of lists part)) (map vec_items workers)

-- the marks of these
unfoldable pub AreMarkedIn : List (Vec (Vec Placed Global) Global) → ℕ → List ℕ → Type 0
AreMarkedIn workers part bytes = AreMarked (cells_of workers part) bytes

-- the mark of a cell of a part: one that is not there counts as one of several keys
abbrev pub mark_at : List ℕ → ℕ → ℕ
mark_at bytes cell = mark_in (slice_index_or bytes (cell / 4) ALL_SEVERAL) cell

-- whether a key of this hash may have a twin
abbrev pub is_shared : Filter → ℕ → Bool
is_shared filter hash =
    mark_at (list_of filter.parts.items (part_of hash)) (cell_of filter.place hash) == 2

-- the marks of the cells of these workers' entries, part by part
pub record IsFilterOf (place : Place) (workers : List (Vec (Vec Placed Global) Global))
    (filter : Filter) : Type 0 where
  pub placed : filter.place ≡ place
  pub marked : AreMade PARTS (AreMarkedIn workers) filter.parts.items
