-- The records of a file that are bad, or whose key is too long.
use Rattle.std.specs.Prelude.{ℕ, ◌-◌, nat_lt, Bool, true, false, if◌then◌else◌, List, [], ◌∷◌, ◌++◌, Option, Some, None, Result, Ok, Err, codes, decimal, length, map, unwrap_or, zip}
use Rattle.std.specs.List.{filter_map, list_any}
use Rattle.std.specs.Option.{option_map}
use Rattle.csv.specs.Records.{field_at}
use Rattle.csv_ingest.specs.KeyFile.{Record, Taking, key_behind, key_in, keys_from, topic_key_in}
use Rattle.csv_ingest.specs.Pieces.{file_records}
use Rattle.lane_words.specs.Refusal.{code_of}
use Rattle.lane_words.specs.declared.Refusal.{Refusal}
use Rattle.lane_words.specs.declared.Refusal.TheVariants as r
use Rattle.lane_words.specs.declared.limits.TheConstants.{LONGEST_KEY}
use Rattle.partitioner.specs.declared.topic.Topic.{Topic}
use Rattle.command_line.specs.declared.options.Column.{Column}
use Rattle.command_line.specs.declared.options.Column.TheVariants.{Number, Named}
use Rattle.command_line.specs.declared.options.Options.{Options}
use Rattle.ingest.specs.Records.{column_in, topic_column_in}
use Rattle.check_report.specs.Findings.{Finding, fields_word, shown}
use Rattle.check_report.specs.Places.{places}
use Rattle.check_report.specs.declared.places.Place.{Place}

-- a finding at the place of a record
abbrev pub found_at : Option ℕ → Place → List ℕ → Finding
found_at code place words = record {
  in_script = false;
  code = code;
  nth = Some place.nth;
  line = Some place.line;
  byte = Some place.byte;
  words = words;
}

-- ---- a record
-- where a record has its key, and with topics the name of its topic; columns are counted from 1
pub record Wants : Type 0 where
  pub topics : List Topic
  pub column : ℕ
  pub topic_column : ℕ

-- how key and topic are taken of a record
abbrev pub taking_among : List Topic → ℕ → ℕ → Taking
taking_among [] column topic_column = key_in column
taking_among (topic ∷ topics) column topic_column =
    topic_key_in column topic_column (map (λ t. t.name) (topic ∷ topics))

-- a key that was taken; with topics it stands behind the index of its topic
abbrev pub key_taken : List Topic → List ℕ → List ℕ
key_taken [] key = key
key_taken (topic ∷ topics) key = key_behind key

-- why what was read can't be appended, or why it can't be read
abbrev pub read_refusal : List Topic → Result (List (List ℕ)) Refusal → Option Refusal
read_refusal topics (Err fault) = Some fault
read_refusal topics (Ok keys) =
    if list_any (λ key. nat_lt LONGEST_KEY (length (key_taken topics key))) keys
    then Some r.KeyTooLong
    else None

-- the fault of record number nth, were it the first that has one: of records that have to have
-- `width` fields it can't be read, or its key is too long
unfoldable pub record_refusal : Wants → ℕ → ℕ → Record → Option Refusal
record_refusal wants width nth fields =
    read_refusal wants.topics
    (keys_from (taking_among wants.topics wants.column wants.topic_column) width nth
    (fields ∷ []))

-- the field in a column
abbrev pub field_in : ℕ → Record → List ℕ
field_in column fields = unwrap_or (field_at fields (column - 1)) []

-- the column that so many fields lack: that of the key if they lack it, or else that of the topic
abbrev pub lacking : Wants → ℕ → ℕ
lacking wants fields = if nat_lt fields wants.column then wants.column else wants.topic_column

-- what is wrong with a record, in words: what was found, and what was wanted
unfoldable pub record_words : Wants → ℕ → Record → Refusal → List ℕ
record_words wants width fields (r.BadCsv nth) =
    decimal (length fields) ++ codes " " ++ fields_word (length fields)
    ++ codes ", the first record has " ++ decimal width
record_words wants width fields (r.NoSuchColumn nth) =
    codes "no column " ++ decimal (lacking wants (length fields)) ++ codes ": it has "
    ++ decimal (length fields) ++ codes " " ++ fields_word (length fields)
record_words wants width fields (r.NoSuchTopic nth) =
    codes "no topic of that name: " ++ shown (field_in wants.topic_column fields)
record_words wants width fields r.KeyTooLong =
    codes "the key has " ++ decimal (length (field_in wants.column fields)) ++ codes " bytes, "
    ++ decimal LONGEST_KEY ++ codes " are the most"
record_words wants width fields refusal = []

-- the finding of a record at its place, if it has a fault
abbrev pub record_finding : Wants → ℕ → Place × Record → Option Finding
record_finding wants width (place, fields) =
    option_map
    (λ refusal. found_at (Some (code_of refusal)) place (record_words wants width fields refusal))
    (record_refusal wants width place.nth fields)

-- ---- a file
-- the records that are to have a key
abbrev pub without_header : Bool → Place × Record → List (Place × Record) → List (Place × Record)
without_header true first rest = rest
without_header false first rest = first ∷ rest

-- a header that has no field of this name
abbrev pub unnamed : Column → Place → List Finding
unnamed (Number n) place = []
unnamed (Named name) place =
    found_at (Some (code_of (r.NoSuchColumn 1))) place
    (codes "the header has no field " ++ shown name.items) ∷ []

-- the findings with a column, or those of a header that does not name it
abbrev pub with_column : Result ℕ Refusal → List Finding → (ℕ → List Finding) → List Finding
with_column (Ok column) missing found = found column
with_column (Err fault) missing found = missing

-- the findings of records with key and topic in these columns; they are to have as many fields as
-- the first
abbrev pub findings_among : Wants → Bool → Place × Record → List (Place × Record) → List Finding
findings_among wants header first rest =
    filter_map (record_finding wants (length first.1)) (without_header header first rest)

-- the findings of records at their places, whose columns were looked up; where the header lacks a
-- name, no other record is read
abbrev pub findings_in : Options → Result ℕ Refusal → Result ℕ Refusal → List (Place × Record)
    → List Finding
findings_in options column topic_column [] = []
findings_in options column topic_column (first ∷ rest) =
    with_column column (unnamed options.column first.0) (λ column.
    with_column topic_column (unnamed options.topic_column first.0) (λ topic_column.
    findings_among
    (record { topics = options.topics.items; column = column; topic_column = topic_column })
    options.header first rest))

-- the records of a file at their places
abbrev pub placed : ℕ → List ℕ → List (Place × Record)
placed delimiter file = zip (places delimiter file) (file_records delimiter file)

-- the findings of a file's records, in order
unfoldable pub findings_of_file : Options → List ℕ → List Finding
findings_of_file options file =
    findings_in options (column_in options.delimiter file options.column)
    (topic_column_in options.delimiter file options.topics.items options.topic_column)
    (placed options.delimiter file)
