-- The keys of a file of records, or its first fault. `csv` defines its records, in the default
-- dialect but for the delimiter: RFC 4180, where a line feed alone ends a record too, an empty line
-- is no record, and a byte order mark at the start is skipped.
use Rattle.std.specs.Prelude.{⊤, ℕ, ◌==◌, List, [], ◌∷◌, length, if◌then◌else◌, Option, Some, None, Result, Ok, Err, true, false, ◌+◌, ◌-◌, Bool}
use Rattle.std.specs.List.{position_from}
use Rattle.std.specs.Str.{bytes_eq}
use Rattle.lane_words.specs.declared.Refusal.{Refusal}
use Rattle.csv.specs.Reading.{default_config, records, strip_bom}
use Rattle.csv.specs.declared.parser.Config.{Config}
use Rattle.csv.specs.Records.{field_at}
use Rattle.lane_words.specs.declared.Refusal.TheVariants as r
use Rattle.csv_ingest.specs.declared.lack.Lack.{Lack}
use Rattle.csv_ingest.specs.declared.lack.Lack.TheVariants as l

-- a record is the list of its fields, and a field is a list of bytes
abbrev pub Record : Type 0
Record = List (List ℕ)

-- csv's default dialect, with this delimiter in place of the comma
abbrev pub dialect : ℕ → Config
dialect delimiter = record default_config { delimiter = delimiter }

-- how a record's key is taken of its fields, or what they lack
abbrev pub Taking : Type 0
Taking = Record → Result (List ℕ) Lack

-- a field, where there is one
abbrev pub field_or_lack : Option (List ℕ) → Result (List ℕ) Lack
field_or_lack None = Err l.Column
field_or_lack (Some field) = Ok field

-- the key alone: the field in this column, which is counted from 1
abbrev pub key_in : ℕ → Taking
key_in column fields = field_or_lack (field_at fields (column - 1))

-- a key behind the index of its topic
abbrev pub behind_index : Option ℕ → List ℕ → Result (List ℕ) Lack
behind_index None key = Err l.Topic
behind_index (Some index) key = Ok (index ∷ key)

-- a key behind the index that its topic has among these names
abbrev pub behind_topic : List (List ℕ) → Option (List ℕ) → Option (List ℕ)
    → Result (List ℕ) Lack
behind_topic names None key = Err l.Column
behind_topic names (Some topic) None = Err l.Column
behind_topic names (Some topic) (Some key) =
    behind_index (position_from (bytes_eq topic) 0 names) key

-- in a file of several topics: the key of this column behind the index of the topic, whose name the
-- topic's column has
abbrev pub topic_key_in : ℕ → ℕ → List (List ℕ) → Taking
topic_key_in column topic_column names fields =
    behind_topic names (field_at fields (topic_column - 1)) (field_at fields (column - 1))

-- the fault of record number nth that lacks this
abbrev pub lack_at : ℕ → Lack → Refusal
lack_at nth l.Column = r.NoSuchColumn nth
lack_at nth l.Topic = r.NoSuchTopic nth

-- a key before the keys of the rest
abbrev pub key_before : List ℕ → Result (List (List ℕ)) Refusal → Result (List (List ℕ)) Refusal
key_before key (Ok keys) = Ok (key ∷ keys)
key_before key (Err fault) = Err fault

-- the key of record number nth, and then the keys of the rest
abbrev pub keyed : ℕ → Result (List ℕ) Lack → Result (List (List ℕ)) Refusal
    → Result (List (List ℕ)) Refusal
keyed nth (Err lack) rest = Err (lack_at nth lack)
keyed nth (Ok key) rest = key_before key rest

-- the keys of records that are numbered from nth on: each has to be `width` fields long, and to
-- lack nothing that is taken
unfoldable pub keys_from : Taking → ℕ → ℕ → List Record → Result (List (List ℕ)) Refusal
keys_from wanted width nth [] = Ok []
keys_from wanted width nth (fields ∷ rest) =
    if length fields == width
    then keyed nth (wanted fields) (keys_from wanted width (nth + 1) rest)
    else Err (r.BadCsv nth)

-- the keys of all records, which are as long as the first; a header is the first record, and has no
-- key
abbrev pub keys_of_records : Taking → Bool → List Record → Result (List (List ℕ)) Refusal
keys_of_records wanted header [] = Ok []
keys_of_records wanted false (first ∷ rest) = keys_from wanted (length first) 1 (first ∷ rest)
keys_of_records wanted true (first ∷ rest) = keys_from wanted (length first) 2 rest

-- what is taken of the records of a file with this delimiter
abbrev pub taken_of : ℕ → Taking → Bool → List ℕ → Result (List (List ℕ)) Refusal
taken_of delimiter wanted header bytes =
    keys_of_records wanted header (records (dialect delimiter) (strip_bom bytes))

-- the keys of a file
abbrev pub keys_of : ℕ → ℕ → Bool → List ℕ → Result (List (List ℕ)) Refusal
keys_of delimiter column header bytes = taken_of delimiter (key_in column) header bytes

-- the keys of a file of several topics, each behind the index of its topic
abbrev pub topic_keys_of : ℕ → ℕ → ℕ → List (List ℕ) → Bool → List ℕ
    → Result (List (List ℕ)) Refusal
topic_keys_of delimiter column topic_column names header bytes =
    taken_of delimiter (topic_key_in column topic_column names) header bytes

-- the index of the topic that a key stands behind
abbrev pub topic_of : List ℕ → ℕ
topic_of [] = 0
topic_of (index ∷ key) = index

-- the key that stands behind the index of its topic
abbrev pub key_behind : List ℕ → List ℕ
key_behind [] = []
key_behind (index ∷ key) = key

-- these keys, and then those of the rest
abbrev pub after_keys : List (List ℕ) → Result (List (List ℕ)) Refusal
    → Result (List (List ℕ)) Refusal
after_keys [] rest = rest
after_keys (key ∷ keys) rest = key_before key (after_keys keys rest)

-- what a read of keys may be refused for
abbrev pub IsFileFault : Refusal → Type 0
IsFileFault (r.NoSuchColumn nth) = ⊤
IsFileFault (r.BadCsv nth) = ⊤
IsFileFault (r.NoSuchTopic nth) = ⊤
IsFileFault r.Memory = ⊤
IsFileFault _ = ⊥
