-- The report of a count: a text, or a fault.
use Rattle.std.specs.Prelude.{ℕ, List, [], Option, Result}
use Rattle.lane_words.specs.declared.Refusal.{Refusal}
use Rattle.partition_log.specs.Keys.{Keyed, keys_in}
use Rattle.command_line.specs.declared.options.Options.{Options}
use Rattle.report_rows.specs.CountRows.{plain_text}
use Rattle.ingest.specs.RecordFaults.{fault_or, first_fault}
use Rattle.ingest.specs.Records.{partition_counts, records_of}
use Rattle.ingest.specs.Reports.{report_of_read}

-- what a count of records writes, or its fault
abbrev pub report_of_records : Option ℕ → List ℕ → List Keyed → Result (List ℕ) Refusal
report_of_records top counts records =
    fault_or (first_fault counts [] records) (plain_text top (keys_in records))

-- what a count of a file writes, or its fault: the first bad record, and only then the first one
-- that can't be appended
abbrev pub report_of_count : Options → List ℕ → Result (List ℕ) Refusal
report_of_count options file =
    report_of_read (report_of_records options.top (partition_counts options))
    (records_of options file)
