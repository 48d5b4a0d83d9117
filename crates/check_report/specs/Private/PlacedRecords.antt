-- The records of a file as they are read, at their places.
use Rattle.std.specs.Prelude.{◌≡◌, ◌<◌, ℕ, List, [], ◌∷◌, Option, Some, None, length, zip}
use Rattle.std.specs.Borrow.{Bor}
use Rattle.csv.specs.Records.{fields_of}
use Rattle.csv_ingest.specs.KeyFile.{Record}
use Rattle.csv_ingest.specs.Records as csv
use Rattle.check_report.specs.declared.places.Place.{Place}
use Rattle.check_report.specs.declared.records.Records.{Records}

-- the bytes that a slice has left
abbrev pub bytes_left : Bor (List ℕ) → Option (List ℕ)
bytes_left slice = Some slice.now

-- the reader stands between two records
abbrev pub IsReading : Records → Type 0
IsReading s = csv.ReadsRecords bytes_left s.reader

-- the records that were not read yet
abbrev pub records_left : Records → List (Place × Record)
records_left s = zip s.places (csv.records_left bytes_left s.reader)

-- the next record was read, and is at this place; or there was none
abbrev pub TakesRecord : Records → Records → Option Place → Type 0
TakesRecord old new None = records_left old ≡ []
TakesRecord old new (Some place) =
    IsReading new × (records_left old ≡ (place, fields_of new.row) ∷ records_left new)
    × (length new.places < length old.places)
