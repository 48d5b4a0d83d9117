-- The columns of a file, once its first record was read, and the key of a record.
use Rattle.std.specs.Prelude.{◌≡◌, length, ℕ, List, [], ◌∷◌, Option, Some, None, Result, Ok, Err, take}
use Rattle.std.specs.List.{position_from}
use Rattle.std.specs.Str.{bytes_eq}
use Rattle.csv_ingest.specs.Header.{column_at}
use Rattle.csv_ingest.specs.KeyFile.{Record}
use Rattle.csv_ingest.specs.declared.lack.Lack.{Lack}
use Rattle.lane_words.specs.declared.Refusal.{Refusal}
use Rattle.lane_words.specs.declared.Refusal.TheVariants as r
use Rattle.partitioner.specs.declared.topic.Topic.{Topic}
use Rattle.command_line.specs.declared.options.Column.{Column}
use Rattle.command_line.specs.declared.options.Column.TheVariants.{Number, Named}
use Rattle.command_line.specs.declared.options.Options.{Options}
use Rattle.command_line.specs.declared.options.TheConstants.{LAST_COLUMN}
use Rattle.check_report.specs.Findings.{Finding}
use Rattle.check_report.specs.RecordFindings.{Wants, findings_in, key_taken, taking_among}
use Rattle.check_report.specs.declared.places.Place.{Place}

-- a column of the file whose first record has these fields
abbrev pub column_among : Record → Column → Result ℕ Refusal
column_among fields (Number n) = Ok n
column_among fields (Named name) =
    column_at (position_from (bytes_eq name.items) 0 (take LAST_COLUMN fields))

-- the column of the topic; without topics none is read, and it is the first
abbrev pub topic_column_among : Record → List Topic → Column → Result ℕ Refusal
topic_column_among fields [] column = Ok 1
topic_column_among fields (topic ∷ topics) column = column_among fields column

-- the findings of a file whose first record, at this place, has these fields
abbrev pub findings_behind : Options → Place → Record → List (Place × Record) → List Finding
findings_behind options place fields rest =
    findings_in options (column_among fields options.column)
    (topic_column_among fields options.topics.items options.topic_column)
    ((place, fields) ∷ rest)

-- a column that was found, or the fault of a header that does not name it
abbrev pub column_found : Option ℕ → Result ℕ Refusal
column_found None = Err (r.NoSuchColumn 1)
column_found (Some column) = Ok column

-- what is taken of a record, or what it lacks
abbrev pub taken : Wants → Record → Result (List ℕ) Lack
taken wants fields = taking_among wants.topics wants.column wants.topic_column fields

-- the record has a key of n bytes
pub record HasKeyOf (wants : Wants) (fields : Record) (n : ℕ) : Type 0 where
  pub item : List ℕ
  pub there : taken wants fields ≡ Ok item
  pub long : n ≡ length (key_taken wants.topics item)
