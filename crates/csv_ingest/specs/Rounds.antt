-- A file that is read chunk by chunk: what each chunk adds to what was read before it.
use Rattle.std.specs.Prelude.{◌≡◌, ◌⊎◌, ℕ, Bool, List, [], ◌∷◌, fold, length, Option, Some, None, Result, Ok}
use Rattle.csv.specs.Reading.{strip_bom}
use Rattle.lane_words.specs.declared.Refusal.{Refusal}
use Rattle.csv_ingest.specs.KeyFile.{Record, Taking, taken_of}
use Rattle.csv_ingest.specs.Pieces.{file_records, piece_keys}
use Rattle.csv_ingest.specs.Stand.{IsCut}

-- a line feed that ends a record is next after these bytes of a file
abbrev pub IsLineEndNext : ℕ → List ℕ → List ℕ → Type 0
IsLineEndNext delimiter read rest =
    (more : List ℕ) × (rest ≡ 10 ∷ more) × IsCut delimiter (strip_bom read)

-- a file of these two parts can be split between them: at its start, at its end, or before a line
-- feed that ends a record
abbrev pub IsSplitPoint : ℕ → List ℕ → List ℕ → Type 0
IsSplitPoint delimiter read rest = (read ≡ []) ⊎ ((rest ≡ []) ⊎ IsLineEndNext delimiter read rest)

-- how many fields the first of these records has, if there is one
abbrev pub width_of : List Record → Option ℕ
width_of [] = None
width_of (first ∷ more) = Some (length first)

-- how many fields the first record of a file has, by the records before these and by these
abbrev pub width_after : Option ℕ → List Record → Option ℕ
width_after None rows = width_of rows
width_after (Some width) rows = Some width

-- the same, by the records before these chunks and by theirs
abbrev pub width_after_all : ℕ → Option ℕ → List (List ℕ) → Option ℕ
width_after_all delimiter width chunks =
    fold (λ width chunk. width_after width (file_records delimiter chunk)) width chunks

-- the keys of a chunk. Before the first record of the file they are those of a file; then each
-- record has to be as long as the first, and none is a header
abbrev pub chunk_keys : ℕ → Taking → Bool → Option ℕ → List ℕ → Result (List (List ℕ)) Refusal
chunk_keys delimiter wanted header None chunk = taken_of delimiter wanted header chunk
chunk_keys delimiter wanted header (Some width) chunk = piece_keys delimiter wanted width chunk

-- these bytes of a file were read and had no fault: how many fields the first record has, how many
-- records there are, a header included, and their keys
pub record HasRead (delimiter : ℕ) (wanted : Taking) (header : Bool) (read : List ℕ)
    (width : Option ℕ) (records : ℕ) (keys : List (List ℕ)) : Type 0 where
  pub first : width ≡ width_of (file_records delimiter read)
  pub count : records ≡ length (file_records delimiter read)
  pub taken : taken_of delimiter wanted header read ≡ Ok keys
