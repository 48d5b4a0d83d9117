-- The places of a file's records.
use Rattle.std.specs.Prelude.{◌≡◌, ℕ, ◌+◌, ◌==◌, Bool, List, [], ◌∷◌, take}
use Rattle.std.specs.List.{count_by}
use Rattle.csv_ingest.specs.Starts.{BeginsAt, starts}
use Rattle.check_report.specs.declared.places.Place.{Place}

abbrev pub is_line_feed : ℕ → Bool
is_line_feed byte = byte == 10

-- the line of a byte: the first, and one more for each line feed before it
abbrev pub line_at : List ℕ → ℕ → ℕ
line_at text byte = count_by is_line_feed (take byte text) + 1

-- the places of records that begin at these bytes of a file, and are numbered from nth on
abbrev pub places_from : List ℕ → ℕ → List ℕ → List Place
places_from file nth [] = []
places_from file nth (byte ∷ starts) =
    record { nth = nth; line = line_at file byte; byte = byte }
    ∷ places_from file (nth + 1) starts

-- the places of a file's records
abbrev pub places : ℕ → List ℕ → List Place
places delimiter file = places_from file 1 (starts delimiter file)

-- the place of record i of a file, from 0: its number, line and byte are those with which it begins
pub record IsPlaceOf (delimiter : ℕ) (file : List ℕ) (i : ℕ) (place : Place) : Type 0 where
  pub nth : place.nth ≡ i + 1
  pub line : place.line ≡ line_at file place.byte
  pub begins : BeginsAt delimiter file i place.byte
