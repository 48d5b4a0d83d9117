-- Rows that are made slice by slice.
use Rattle.std.specs.Prelude.{◌≡◌, ◌+◌, ◌*◌, ◌/◌, ◌%◌, ℕ, List, Vec, min, length, slice_range}
use Rattle.std.specs.Global.{Global}
use Rattle.report_rows.specs.ReplayRows.{committed_count_rows}
use Rattle.report_rows.specs.declared.committed_rows.TheConstants.{SLICE}

-- the rows of the keys from one number on, below another
abbrev pub committed_between : List (List ℕ) → List ℕ → ℕ → ℕ → List ℕ
committed_between keys counts from to =
    committed_count_rows (slice_range keys from to) (slice_range counts from to)

-- how many slices so many keys have
abbrev pub slices_of : ℕ → ℕ
slices_of keys = keys / SLICE + min 1 (keys % SLICE)

-- the number of the first key of a slice, of so many keys
abbrev pub slice_start : ℕ → ℕ → ℕ
slice_start keys slice = min (slice * SLICE) keys

-- the rows of the keys of a slice
abbrev pub IsTextOfSlice : List (List ℕ) → List ℕ → ℕ → Vec ℕ Global → Type 0
IsTextOfSlice keys counts slice text =
    text.items ≡ committed_between keys counts (slice_start (length keys) slice)
    (slice_start (length keys) (slice + 1))
