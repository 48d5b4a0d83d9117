-- The columns of a file, found before its first record is counted.
use Rattle.std.specs.Prelude.{◌≡◌, ◌⊎◌, ℕ, Bool, true, false, List, [], ◌++◌, Option, IfSome, Result, Ok, Err}
use Rattle.std.specs.Io.KnownBytes.{Consumes, IsAtEnd}
use Rattle.lane_words.specs.declared.Refusal.{Refusal}
use Rattle.lane_words.specs.declared.Refusal.TheVariants as r
use Rattle.command_line.specs.declared.options.Options.{Options}
use Rattle.command_line.specs.declared.options.Column.{Column}
use Rattle.command_line.specs.declared.options.Column.TheVariants.{Number, Named}
use Rattle.csv_ingest.specs.Header.{header_of}
use Rattle.csv_ingest.specs.Pieces.{file_records}
use Rattle.ingest.specs.Records.{column_in, records_of, topic_column_in}
use Rattle.ingest.specs.declared.columns.Columns.{Columns}

-- whether a column has a name
abbrev pub is_named : Column → Bool
is_named (Number n) = false
is_named (Named name) = true

-- the column of the key that options have in a file, and that of the topic
abbrev pub key_column : Options → List ℕ → Result ℕ Refusal
key_column options file = column_in options.delimiter file options.column

abbrev pub topic_column : Options → List ℕ → Result ℕ Refusal
topic_column options file =
    topic_column_in options.delimiter file options.topics.items options.topic_column

-- these are the columns that options have in a file
pub record AreColumns (options : Options) (file : List ℕ) (columns : Columns) : Type 0 where
  pub key : key_column options file ≡ Ok columns.key
  pub topic : topic_column options file ≡ Ok columns.topic

-- a file does not have one of the columns: the key's, or otherwise the topic's
abbrev pub IsColumnFault : Options → List ℕ → Refusal → Type 0
IsColumnFault options file fault =
    (key_column options file ≡ Err fault)
    ⊎ ((key : ℕ) × (key_column options file ≡ Ok key) × (topic_column options file ≡ Err fault))

-- the columns that options have in a file, or the fault of the first that it does not have
abbrev pub FindsColumns : Options → List ℕ → Result Columns Refusal → Type 0
FindsColumns options file (Ok columns) = AreColumns options file columns
FindsColumns options file (Err fault) = (fault ≡ r.Memory) ⊎ IsColumnFault options file fault

-- the records of a source have this fault, if its bytes are known
abbrev pub IsRecordsFault : Options → Option (List ℕ) → Refusal → Type 0
IsRecordsFault options left fault = IfSome left (λ bytes. records_of options bytes ≡ Err fault)

-- a window has all bytes that were read from a source, which may be at its end then
pub record IsFilled (at_end : Bool) (left left2 : Option (List ℕ)) (window : List ℕ)
    : Type 0 where
  pub consumed : Consumes left left2 window
  pub ended : at_end ≡ true → IsAtEnd left2

-- the file may go on with these bytes: with none, if its source is at its end
abbrev pub MayFollow : Bool → List ℕ → Type 0
MayFollow at_end more = at_end ≡ true → more ≡ []

-- the same, and whatever follows, the header of the file is that of the window
pub record ReadsHeader (delimiter : ℕ) (at_end : Bool) (left left2 : Option (List ℕ))
    (window : List ℕ) : Type 0 where
  pub filled : IsFilled at_end left left2 window
  pub header : (more : List ℕ) → MayFollow at_end more
      → header_of (file_records delimiter (window ++ more))
      ≡ header_of (file_records delimiter window)

-- the same of the columns that options have
pub record KnowsColumns (options : Options) (at_end : Bool) (left left2 : Option (List ℕ))
    (window : List ℕ) : Type 0 where
  pub filled : IsFilled at_end left left2 window
  pub key : (more : List ℕ) → MayFollow at_end more
      → key_column options (window ++ more) ≡ key_column options window
  pub topic : (more : List ℕ) → MayFollow at_end more
      → topic_column options (window ++ more) ≡ topic_column options window

-- these are the columns of the file, whatever follows
pub record FoundColumns (options : Options) (at_end : Bool) (left left2 : Option (List ℕ))
    (window : List ℕ) (columns : Columns) : Type 0 where
  pub filled : IsFilled at_end left left2 window
  pub known : (more : List ℕ) → MayFollow at_end more
      → AreColumns options (window ++ more) columns
