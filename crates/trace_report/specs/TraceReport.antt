-- The report of a trace: a text, or a fault.
use Rattle.std.specs.Prelude.{ℕ, List, [], ◌++◌, Result, Err}
use Rattle.std.specs.Option.{option_map_or}
use Rattle.std.specs.Result.{result_map_both}
use Rattle.lane_words.specs.declared.Refusal.{Refusal}
use Rattle.partition_log.specs.Keys.{Keyed}
use Rattle.script.specs.Replay.{read_answer_in}
use Rattle.script.specs.declared.replay.Line.{Line}
use Rattle.partitioner.specs.declared.topic.Topic.{Topic}
use Rattle.command_line.specs.declared.options.Options.{Options}
use Rattle.ingest.specs.RecordFaults.{first_fault}
use Rattle.ingest.specs.Records.{partition_counts, records_of}
use Rattle.ingest.specs.Reports.{report_of_read}
use Rattle.replay_report.specs.ReplayReport.{loaded, opening_world}
use Rattle.replay_steps.specs.Lines.{steps_of_lines}
use Rattle.world.specs.World.{WorldState}
use Rattle.trace_report.specs.TraceRows.{header_row, rows_of_steps}

-- the header and a row for each step of the lines, or the fault that ends the script
unfoldable pub trace_of_lines : List Topic → ℕ → WorldState → List Line → Result (List ℕ) Refusal
trace_of_lines topics batch w lines =
    result_map_both (λ steps. header_row topics ++ rows_of_steps topics steps) (λ fault. fault)
    (steps_of_lines batch w lines)

-- what a trace of lines over records writes, or its fault: the first record that can't be appended,
-- and only then a line that would pass the last generation
unfoldable pub trace_of_records : Options → List Keyed → List Line → Result (List ℕ) Refusal
trace_of_records options records lines =
    option_map_or Err (first_fault (partition_counts options) [] records)
    (trace_of_lines options.topics.items options.batch
    (loaded (opening_world (partition_counts options)) records) lines)

-- what a trace of a script over a file writes, or its fault, which is that of a replay
abbrev pub report_of_trace : Options → List ℕ → List ℕ → Result (List ℕ) Refusal
report_of_trace options file script =
    report_of_read
    (λ records. report_of_read (trace_of_records options records)
    (read_answer_in options.topics.items script))
    (records_of options file)
