-- Where the records of a file begin.
use Rattle.std.specs.Prelude.{◌≡◌, ℕ, ◌+◌, ◌<◌, not, Bool, false, if◌then◌else◌, List, [], ◌∷◌, drop, get_or, length, take}
use Rattle.csv.specs.Reading.{records}
use Rattle.csv_ingest.specs.KeyFile.{dialect}
use Rattle.csv_ingest.specs.Pieces.{bom_length, file_records}
use Rattle.csv_ingest.specs.Stand.{is_line_end, stand_next}
use Rattle.csv_ingest.specs.declared.stand.Stand.{Stand}
use Rattle.csv_ingest.specs.declared.stand.Stand.TheVariants as k

-- whether a record begins with this byte, before which a reader stands so: none is begun, and the
-- byte ends no blank line
abbrev pub begins_record : Stand → ℕ → Bool
begins_record k.Record byte = not (is_line_end byte)
begins_record stand byte = false

-- a byte of this number, if a record begins with it, before others
abbrev pub first_if : Bool → ℕ → List ℕ → List ℕ
first_if begins byte starts = if begins then byte ∷ starts else starts

-- the numbers of the bytes that begin a record, among these, of which the first is byte `byte`
unfoldable pub starts_from : ℕ → Stand → ℕ → List ℕ → List ℕ
starts_from delimiter stand byte [] = []
starts_from delimiter stand byte (c ∷ rest) =
    first_if (begins_record stand c) byte
    (starts_from delimiter (stand_next delimiter stand c) (byte + 1) rest)

-- the same of a file, whose bytes are counted from 0; a byte order mark is counted, but begins no
-- record
abbrev pub starts : ℕ → List ℕ → List ℕ
starts delimiter file =
    starts_from delimiter k.Record (bom_length file) (drop (bom_length file) file)

-- record i of a file, from 0, begins with this byte: no line ends with it, the bytes before it have
-- the records before, and those from it on the others
pub record BeginsAt (delimiter : ℕ) (file : List ℕ) (i byte : ℕ) : Type 0 where
  pub within : byte < length file
  pub begins : is_line_end (get_or file byte 0) ≡ false
  pub before : file_records delimiter (take byte file) ≡ take i (file_records delimiter file)
  pub from : records (dialect delimiter) (drop byte file) ≡ drop i (file_records delimiter file)
