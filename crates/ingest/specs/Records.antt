-- The records of a file, and their partitions.
use Rattle.std.specs.Prelude.{ℕ, ◌==◌, Bool, not, List, [], ◌∷◌, length, map, Option, Result, Ok, Err}
use Rattle.std.specs.Result.{result_map_both}
use Rattle.lane_words.specs.declared.Refusal.{Refusal}
use Rattle.partition_log.specs.Appends.{in_first}
use Rattle.partition_log.specs.Keys.{Keyed}
use Rattle.partition_log.specs.Logs.{place_in_topic}
pub use Rattle.partition_log.specs.Taken.{AreLogsWith, AreOfTopics, empty_logs, record_of}
use Rattle.partitioner.specs.declared.topic.Topic.{Topic}
use Rattle.command_line.specs.declared.options.Options.{Options}
use Rattle.command_line.specs.declared.options.Column.{Column}
use Rattle.command_line.specs.declared.options.Column.TheVariants.{Number, Named}
use Rattle.command_line.specs.declared.options.TheConstants.{LAST_COLUMN}
use Rattle.csv_ingest.specs.Header.{column_named}
use Rattle.csv_ingest.specs.Pieces.{file_records}
use Rattle.csv_ingest.specs.KeyFile.{keys_of, topic_keys_of}

-- the number of partitions of each of these topics, or of the one topic there is if none is named
abbrev pub counts_among : ℕ → List Topic → List ℕ
counts_among partitions [] = partitions ∷ []
counts_among partitions (topic ∷ topics) = map (λ t. t.partitions) (topic ∷ topics)

-- the number of partitions of each topic
abbrev pub partition_counts : Options → List ℕ
partition_counts options = counts_among options.partitions options.topics.items

-- whether topics are named
abbrev pub names_topics : Options → Bool
names_topics options = not (length options.topics.items == 0)

-- a column of a file, counted from 1: a named one is looked up in the header
abbrev pub column_in : ℕ → List ℕ → Column → Result ℕ Refusal
column_in delimiter file (Number n) = Ok n
column_in delimiter file (Named name) =
    column_named LAST_COLUMN name.items (file_records delimiter file)

-- the column of the topic; without topics none is read, and it is the first
abbrev pub topic_column_in : ℕ → List ℕ → List Topic → Column → Result ℕ Refusal
topic_column_in delimiter file [] column = Ok 1
topic_column_in delimiter file (topic ∷ topics) column = column_in delimiter file column

-- the records of a file with the key in this column, each of the topic that its topic column names;
-- without topics, all records are of the first
abbrev pub records_among : ℕ → Bool → List Topic → List ℕ → ℕ → ℕ
    → Result (List Keyed) Refusal
records_among delimiter header [] file column topic_column =
    result_map_both in_first (λ fault. fault) (keys_of delimiter column header file)
records_among delimiter header (topic ∷ topics) file column topic_column =
    result_map_both (map record_of) (λ fault. fault)
    (topic_keys_of delimiter column topic_column (map (λ t. t.name) (topic ∷ topics)) header file)

-- what is done with a column, or the fault of its lookup
abbrev pub with_column : Result ℕ Refusal → (ℕ → Result (List Keyed) Refusal)
    → Result (List Keyed) Refusal
with_column (Ok column) records = records column
with_column (Err fault) records = Err fault

-- the records of a file, or the fault of the first bad one
unfoldable pub records_of : Options → List ℕ → Result (List Keyed) Refusal
records_of options file =
    with_column (column_in options.delimiter file options.column) (λ column.
    with_column (topic_column_in options.delimiter file options.topics.items options.topic_column)
    (records_among options.delimiter options.header options.topics.items file column))

-- records that were read, and why the first of them that can't be appended can't
pub record ReadRecords : Type 0 where
  pub records : List Keyed
  pub refusal : Option Refusal

abbrev pub records_in : ReadRecords → List Keyed
records_in read = read.records

-- the partition of a record among topics with these numbers of partitions
abbrev pub partition_of_record : List ℕ → Keyed → ℕ
partition_of_record counts keyed = place_in_topic counts keyed.0 keyed.1
