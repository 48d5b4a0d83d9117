-- The first record of a file.
use Rattle.std.specs.Prelude.{◌≡◌, Bool, List, [], ◌∷◌}
use Rattle.std.specs.Bool.{MatchBool}
use Rattle.csv_ingest.specs.KeyFile.{Record}

-- there is a first record, of these fields, or there is no record
abbrev pub BeginsWith : Bool → Record → List Record → Type 0
BeginsWith found fields rows =
    MatchBool found ((rest : List Record) × (rows ≡ fields ∷ rest)) (rows ≡ [])
