-- The report of `draw`: a picture, or a fault.
use Rattle.std.specs.Prelude.{ℕ, List, [], Result, Err}
use Rattle.std.specs.Option.{option_map_or}
use Rattle.std.specs.Result.{result_map_both}
use Rattle.lane_words.specs.declared.Refusal.{Refusal}
use Rattle.partition_log.specs.Keys.{Keyed}
use Rattle.partitioner.specs.declared.topic.Topic.{Topic}
use Rattle.command_line.specs.declared.options.Options.{Options}
use Rattle.ingest.specs.RecordFaults.{first_fault}
use Rattle.ingest.specs.Records.{partition_counts, records_of}
use Rattle.ingest.specs.Reports.{report_of_read}
use Rattle.script.specs.Replay.{read_answer_in}
use Rattle.script.specs.declared.replay.Line.{Line}
use Rattle.replay_steps.specs.Lines.{steps_of_lines}
use Rattle.replay_report.specs.ReplayReport.{loaded, opening_world}
use Rattle.timeline.specs.Timelines.{TimelineState}
use Rattle.timeline_recorder.specs.Recording.{timeline_of}
use Rattle.timeline_svg.specs.Picture.{picture_of}
use Rattle.world.specs.World.{WorldState}

-- the timeline of a script's lines in a world, or the fault that ends the script
unfoldable pub timeline_of_lines : ℕ → WorldState → List Line → Result TimelineState Refusal
timeline_of_lines batch w lines =
    result_map_both (timeline_of w) (λ fault. fault) (steps_of_lines batch w lines)

-- its picture, or that fault; `script` is the text of the lines
unfoldable pub picture_of_lines : List Topic → List ℕ → ℕ → WorldState → List Line
    → Result (List ℕ) Refusal
picture_of_lines topics script batch w lines =
    result_map_both (picture_of topics script) (λ fault. fault) (timeline_of_lines batch w lines)

-- the picture of a script over records, or the fault: the first record that can't be appended, and
-- only then a line that would pass the last generation
unfoldable pub picture_of_records : Options → List ℕ → List Keyed → List Line
    → Result (List ℕ) Refusal
picture_of_records options script records lines =
    option_map_or Err (first_fault (partition_counts options) [] records)
    (picture_of_lines options.topics.items script options.batch
    (loaded (opening_world (partition_counts options)) records) lines)

-- the picture of a script over a file, or the fault, which is that of a replay
abbrev pub report_of_draw : Options → List ℕ → List ℕ → Result (List ℕ) Refusal
report_of_draw options file script =
    report_of_read
    (λ records. report_of_read (picture_of_records options script records)
    (read_answer_in options.topics.items script))
    (records_of options file)
