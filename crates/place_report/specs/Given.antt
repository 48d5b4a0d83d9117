-- Records that do not lie in the partitions of their keys.
use Rattle.std.specs.Prelude.{ℕ, ◌+◌, nat_lt, Bool, false, List, [], ◌∷◌, ◌++◌, Option, None, Some, Result, Ok, Err, bytes_eq, codes, decimal, flat_map, if◌then◌else◌, length, map, take}
use Rattle.csv.specs.Writing.{row_text}
use Rattle.csv_ingest.specs.KeyFile.{keys_of}
use Rattle.lane_words.specs.declared.Refusal.{Refusal}
use Rattle.lane_words.specs.declared.Refusal.TheVariants as r
use Rattle.partition_log.specs.Keys.{Key, Keyed, keys_in}
use Rattle.partitioner.specs.declared.topic.Topic.{Topic}
use Rattle.report_rows.specs.ReplayRows.{partition_fields}
use Rattle.report_rows.specs.Rows.{row_writer}
use Rattle.command_line.specs.declared.options.Options.{Options}
use Rattle.ingest.specs.RecordFaults.{fault_or, first_fault}
use Rattle.ingest.specs.Records.{partition_counts, partition_of_record, records_of}
use Rattle.ingest.specs.Reports.{report_of_read}
use Rattle.place_report.specs.PlaceRows.{topic_column}

-- ---- the given column
-- the number of the record that is at fault; 0 if no record is
abbrev pub record_number : Refusal → ℕ
record_number (r.NoSuchColumn nth) = nth
record_number (r.BadCsv nth) = nth
record_number (r.NoSuchTopic nth) = nth
record_number fault = 0

-- the fault of the earlier record, and of one record the first
abbrev pub earlier_fault : Refusal → Refusal → Refusal
earlier_fault first second =
    if nat_lt (record_number second) (record_number first) then second else first

-- what two readings of the same records have, or the fault of the first bad record
abbrev pub both : {A B : Type 0} → Result A Refusal → Result B Refusal → Result (A × B) Refusal
both (Ok one) (Ok other) = Ok (one, other)
both (Ok one) (Err fault) = Err fault
both (Err fault) (Ok other) = Err fault
both (Err fault) (Err other) = Err (earlier_fault fault other)

-- the records of a file, and what the given column of each has, or the fault of the first bad one
abbrev pub records_and_given : Options → ℕ → List ℕ → Result (List Keyed × List (List ℕ)) Refusal
records_and_given options given file =
    both (records_of options file) (keys_of options.delimiter given options.header file)

-- ---- the table
-- the last of some fields
abbrev pub last_field : List (List ℕ) → List ℕ
last_field [] = []
last_field (field ∷ []) = field
last_field (field ∷ next ∷ fields) = last_field (next ∷ fields)

-- what the given column of a record of partition p should have: the partition's number in its topic
abbrev pub number_text : List Topic → ℕ → List ℕ
number_text topics p = last_field (partition_fields topics p)

-- the first row: what the columns of a misplaced record are
unfoldable pub given_header : List Topic → List ℕ
given_header topics =
    row_text row_writer
    (codes "record" ∷ codes "key" ∷ codes "given" ∷ topic_column topics ++ codes "place" ∷ [])

-- the row of record number nth: its key, the text of its given column, and its partition
unfoldable pub misplaced_row : List Topic → ℕ → Key → List ℕ → ℕ → List ℕ
misplaced_row topics nth key text p =
    row_text row_writer (decimal nth ∷ key ∷ text ∷ partition_fields topics p)

-- the rows of those of some records, numbered from nth on, whose text is not the number of their
-- partition
unfoldable pub misplaced_rows : List Topic → ℕ → List ℕ → List Key → List (List ℕ) → List (List ℕ)
misplaced_rows topics nth [] keys texts = []
misplaced_rows topics nth (p ∷ places) [] texts = []
misplaced_rows topics nth (p ∷ places) (key ∷ keys) [] = []
misplaced_rows topics nth (p ∷ places) (key ∷ keys) (text ∷ texts) =
    if bytes_eq text (number_text topics p) then misplaced_rows topics (nth + 1) places keys texts
    else misplaced_row topics nth key text p ∷ misplaced_rows topics (nth + 1) places keys texts

-- the number of the first record that has a key
abbrev pub first_number : Bool → ℕ
first_number header = if header then 2 else 1

-- the rows of the misplaced records of a file
abbrev pub misplaced_of : Options → List Keyed × List (List ℕ) → List (List ℕ)
misplaced_of options read =
    misplaced_rows options.topics.items (first_number options.header)
    (map (partition_of_record (partition_counts options)) read.0) (keys_in read.0) read.1

-- the table of the first of them
abbrev pub given_table : List Topic → List (List ℕ) → List ℕ
given_table topics misplaced =
    given_header topics ++ flat_map (λ row. row) (take 20 misplaced)

-- the same of records and their given column, or the fault of the first that can't be appended
abbrev pub given_of_records : Options → List Keyed × List (List ℕ) → Result (List ℕ) Refusal
given_of_records options read =
    fault_or (first_fault (partition_counts options) [] read.0)
    (given_table options.topics.items (misplaced_of options read))

-- what is written of a file with a given column, or its fault
abbrev pub report_of_given : Options → ℕ → List ℕ → Result (List ℕ) Refusal
report_of_given options given file =
    report_of_read (given_of_records options) (records_and_given options given file)

-- whether one of the records that were read is misplaced
abbrev pub is_one_misplaced : Options → Result (List Keyed × List (List ℕ)) Refusal → Bool
is_one_misplaced options (Ok read) = nat_lt 0 (length (misplaced_of options read))
is_one_misplaced options (Err fault) = false

-- the same of a file with a given column; without one none is
abbrev pub has_misplaced : Options → Option ℕ → List ℕ → Bool
has_misplaced options None file = false
has_misplaced options (Some given) file =
    is_one_misplaced options (records_and_given options given file)
