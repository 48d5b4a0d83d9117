-- The keys of the pieces of a file, and those of the whole.
use Rattle.std.specs.Prelude.{◌≡◌, ℕ, ◌+◌, if◌then◌else◌, List, [], ◌∷◌, ◌++◌, length, Result, Ok, Err}
use Rattle.csv.specs.Reading.{is_bom, records, strip_bom}
use Rattle.lane_words.specs.declared.Refusal.{Refusal}
use Rattle.lane_words.specs.declared.Refusal.TheVariants as r
use Rattle.csv_ingest.specs.KeyFile.{Record, Taking, after_keys, dialect, keys_from}
use Rattle.csv_ingest.specs.Stand.{IsCut}

-- the records of a file with this delimiter
abbrev pub file_records : ℕ → List ℕ → List Record
file_records delimiter bytes = records (dialect delimiter) (strip_bom bytes)

-- how many bytes a byte order mark takes at the start of a file
unfoldable pub bom_length : List ℕ → ℕ
bom_length [] = 0
bom_length (a ∷ []) = 0
bom_length (a ∷ b ∷ []) = 0
bom_length (a ∷ b ∷ c ∷ rest) = if is_bom a b c then 3 else 0

-- the pieces of a file with this delimiter, which is cut before line feeds that end a record
unfoldable pub ArePieces : ℕ → List ℕ → List (List ℕ) → Type 0
ArePieces delimiter file [] = file ≡ []
ArePieces delimiter file (piece ∷ []) = file ≡ piece
ArePieces delimiter file (piece ∷ next ∷ pieces) =
    (rest : List ℕ) × (file ≡ piece ++ 10 ∷ rest) × IsCut delimiter (strip_bom piece)
    × ArePieces delimiter (10 ∷ rest) (next ∷ pieces)

-- the keys of a piece, and then those of the rest
abbrev pub then_keys : Result (List (List ℕ)) Refusal → Result (List (List ℕ)) Refusal
    → Result (List (List ℕ)) Refusal
then_keys (Ok keys) rest = after_keys keys rest
then_keys (Err fault) rest = Err fault

-- a fault of a record before which there are `earlier` records more
abbrev pub later_fault : ℕ → Refusal → Refusal
later_fault earlier (r.NoSuchColumn nth) = r.NoSuchColumn (nth + earlier)
later_fault earlier (r.BadCsv nth) = r.BadCsv (nth + earlier)
later_fault earlier (r.NoSuchTopic nth) = r.NoSuchTopic (nth + earlier)
later_fault earlier fault = fault

-- the keys of a piece that was numbered from its own first record on
abbrev pub later_keys : ℕ → Result (List (List ℕ)) Refusal → Result (List (List ℕ)) Refusal
later_keys earlier (Ok keys) = Ok keys
later_keys earlier (Err fault) = Err (later_fault earlier fault)

-- the keys of a piece behind the first, whose records are numbered from 1 on
abbrev pub piece_keys : ℕ → Taking → ℕ → List ℕ → Result (List (List ℕ)) Refusal
piece_keys delimiter wanted width piece =
    keys_from wanted width 1 (file_records delimiter piece)

-- the keys of pieces in their order, after `earlier` records: of a fault the record's number counts
-- on
abbrev pub joined : ℕ → List (Result (List (List ℕ)) Refusal) → Result (List (List ℕ)) Refusal
joined earlier [] = Ok []
joined earlier (Ok keys ∷ rest) = after_keys keys (joined (earlier + length keys) rest)
joined earlier (Err fault ∷ rest) = Err (later_fault earlier fault)
