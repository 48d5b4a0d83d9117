-- The report of places: a text, or a fault.
use Rattle.std.specs.Prelude.{ℕ, Bool, true, false, List, [], Option, Some, None, Result}
use Rattle.lane_words.specs.declared.Refusal.{Refusal}
use Rattle.partition_log.specs.Keys.{Keyed}
use Rattle.command_line.specs.declared.options.Options.{Options}
use Rattle.command_line.specs.declared.options.PlaceOptions.{PlaceOptions}
use Rattle.ingest.specs.RecordFaults.{fault_or, first_fault}
use Rattle.ingest.specs.Records.{partition_counts, records_of}
use Rattle.ingest.specs.Reports.{report_of_read}
use Rattle.place_report.specs.Given.{report_of_given}
use Rattle.place_report.specs.PlaceRows.{key_table, partition_table}

-- the table of the keys of records, or that of their partitions
abbrev pub table_of : Bool → Options → List Keyed → List ℕ
table_of true options records =
    key_table options.topics.items (partition_counts options) records
table_of false options records =
    partition_table options.topics.items (partition_counts options) records

-- the table of records, or the fault of the first one that can't be appended
abbrev pub table_of_records : Bool → Options → List Keyed → Result (List ℕ) Refusal
table_of_records keys options records =
    fault_or (first_fault (partition_counts options) [] records) (table_of keys options records)

-- what is written of a file, or its fault: the first bad record, and only then the first one that
-- can't be appended; with a given column, the table of the records that it misplaces
abbrev pub report_with : Option ℕ → Bool → Options → List ℕ → Result (List ℕ) Refusal
report_with None keys options file =
    report_of_read (table_of_records keys options) (records_of options file)
report_with (Some given) keys options file = report_of_given options given file

abbrev pub report_of_place : Options → PlaceOptions → List ℕ → Result (List ℕ) Refusal
report_of_place options place file = report_with place.given place.keys options file
