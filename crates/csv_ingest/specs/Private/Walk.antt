-- The records of a text, in one walk over its bytes with `csv`'s machine, with no number of turns.
use Rattle.std.specs.Prelude.{ℕ, List, [], ◌∷◌, ◌++◌, if◌then◌else◌}
use Rattle.csv.specs.Machine.{ends_at_end, field_after, fields_after, is_end, step}
use Rattle.csv.specs.declared.parser.State.{State}
use Rattle.csv_ingest.specs.KeyFile.{Record, dialect}

-- the records of these bytes with this delimiter, from a state with these fields and these bytes of
-- a field
unfoldable pub walk : ℕ → State → List (List ℕ) → List ℕ → List ℕ → List Record
walk delimiter s fields field [] = if ends_at_end s then (fields ++ (field ∷ [])) ∷ [] else []
walk delimiter s fields field (c ∷ rest) =
    if is_end (step (dialect delimiter) s c).1
    then fields_after (step (dialect delimiter) s c).1 fields field
    ∷ walk delimiter (step (dialect delimiter) s c).0 [] [] rest
    else walk delimiter (step (dialect delimiter) s c).0
    (fields_after (step (dialect delimiter) s c).1 fields field)
    (field_after (step (dialect delimiter) s c).1 c field) rest
