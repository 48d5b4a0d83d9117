-- What is left to read of a text of records.
use Rattle.std.specs.Prelude.{◌≡◌, ℕ, List, [], length, Option, Some, Bool, true, ◌∷◌, ◌⊎◌, ◌+◌, unwrap_or}
use Rattle.std.specs.Bool.{MatchBool}
use Rattle.csv.specs.Reading.{Ready, is_flexible, reader_config, reader_state, reader_trim, records_from, source_of}
use Rattle.csv.specs.declared.parser.Config.{Config}
use Rattle.csv.specs.declared.parser.State.{State}
use Rattle.csv.specs.declared.reader.Reader.{Reader}
use Rattle.csv.specs.declared.parser.State.TheVariants as st
use Rattle.csv.specs.declared.reader.Trim.TheVariants as trim
use Rattle.csv_ingest.specs.KeyFile.{Record, dialect}

-- a state in which no record is begun
abbrev pub IsBetween : State → Type 0
IsBetween s = (s ≡ st.StartRecord) ⊎ (s ≡ st.AfterCr)

-- the records of these bytes from this state
abbrev pub records_at : Config → State → List ℕ → List Record
records_at config state bytes = records_from config (length bytes + 1) state bytes

-- the records that a reader has left, where its bytes are known
abbrev pub records_left : {R : Type 0} → (R → Option (List ℕ)) → Reader R → List Record
records_left rem s =
    records_at (reader_config s) (reader_state s) (unwrap_or (source_of rem s) [])

-- csv's default dialect, with some delimiter
abbrev pub IsDialect : Config → Type 0
IsDialect config = (delimiter : ℕ) × (config ≡ dialect delimiter)

-- a reader of known bytes that reads records of any length in the default dialect, with some
-- delimiter, and stands between two
pub record ReadsRecords {R : Type 0} (rem : R → Option (List ℕ)) (s : Reader R) : Type 0 where
  pub untrimmed : reader_trim s ≡ trim.None
  pub ready : Ready s
  pub in_dialect : IsDialect (reader_config s)
  pub flexible : is_flexible s ≡ true
  pub between : IsBetween (reader_state s)
  pub known : (y : List ℕ) × (source_of rem s ≡ Some y)

-- a reader took its next record, of these fields, and stands before the rest; or it had none
abbrev pub TakesNext : {R : Type 0} → (R → Option (List ℕ)) → Reader R → Reader R → Record → Bool
    → Type 0
TakesNext rem old new fields found =
    MatchBool found (ReadsRecords rem new × (records_left rem old ≡ fields ∷ records_left rem new))
    (records_left rem old ≡ [])
