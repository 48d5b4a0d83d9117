-- The columns that a header names.
use Rattle.std.specs.Prelude.{◌≡◌, ◌+◌, ℕ, List, [], ◌∷◌, ◌++◌, Option, Some, None, Result, Ok, Err, take}
use Rattle.std.specs.List.{position_from}
use Rattle.std.specs.Str.{bytes_eq}
use Rattle.lane_words.specs.declared.Refusal.{Refusal}
use Rattle.lane_words.specs.declared.Refusal.TheVariants as r
use Rattle.csv_ingest.specs.KeyFile.{Record}
use Rattle.csv_ingest.specs.Pieces.{file_records}

-- the column of an index, counted from 1; without an index record 1, the header, is at fault
abbrev pub column_at : Option ℕ → Result ℕ Refusal
column_at None = Err (r.NoSuchColumn 1)
column_at (Some index) = Ok (index + 1)

-- the column of the first field of the header with this name, among the first `most`; the header is
-- the first of these records. Without records, any column has the same keys, and it is the first.
abbrev pub column_named : ℕ → List ℕ → List Record → Result ℕ Refusal
column_named most name [] = Ok 1
column_named most name (header ∷ rows) =
    column_at (position_from (bytes_eq name) 0 (take most header))

-- the header of a file with these records, if there is one
abbrev pub header_of : List Record → Option Record
header_of [] = None
header_of (header ∷ rows) = Some header

-- the header of a file that begins with these bytes is theirs, whatever comes behind them
abbrev pub HasHeader : ℕ → List ℕ → Type 0
HasHeader delimiter text =
    (more : List ℕ)
    → header_of (file_records delimiter (text ++ more)) ≡ header_of (file_records delimiter text)
