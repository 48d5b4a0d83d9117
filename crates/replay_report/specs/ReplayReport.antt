-- The report of a replay: a text, or a fault.
use Rattle.std.specs.Prelude.{ℕ, List, [], ◌∷◌, ◌++◌, length, drop, replicate, fold, Option, Result, Ok, Err}
use Rattle.std.specs.List.{sum}
use Rattle.std.specs.Option.{option_map_or}
use Rattle.lane_words.specs.Refusal.{code_of}
use Rattle.lane_words.specs.declared.Refusal.{Refusal}
use Rattle.partition_log.specs.Keys.{Keyed}
use Rattle.group_machine.specs.State.{opening}
use Rattle.world.specs.Steps.{append_event}
use Rattle.world.specs.World.{WorldState}
use Rattle.script.specs.Replay.{read_answer_in}
use Rattle.script.specs.declared.replay.Line.{Line}
use Rattle.replay_steps.specs.Lines.{LineOutcome, outcome_of_line, unless_over}
use Rattle.partitioner.specs.declared.topic.Topic.{Topic}
use Rattle.command_line.specs.declared.options.Options.{Options}
use Rattle.ingest.specs.RecordFaults.{first_fault}
use Rattle.ingest.specs.Records.{partition_counts, records_of}
use Rattle.report_rows.specs.ReplayRows.{closing_rows, move_rows, refused_row}
use Rattle.ingest.specs.Reports.{report_of_read}

-- ---- the world before the first line
-- a new world whose topics have these numbers of partitions
unfoldable pub opening_world : List ℕ → WorldState
opening_world counts = record {
  cluster = record {
    group = opening (sum counts);
    logs = record {
      counts = counts;
      partitions = sum counts;
      keys = [];
      logs = replicate (sum counts) [];
    };
    store = record { offsets = replicate (sum counts) 0; counts = []; capacity = 0 };
  };
  consumers = [];
  mail = [];
}

-- a world with these records appended in order
unfoldable pub loaded : WorldState → List Keyed → WorldState
loaded w records = fold (λ so_far keyed. (append_event so_far keyed).after) w records

-- ---- the text of lines
-- the row of a refusal
abbrev pub rows_of_answer : ℕ → Result (Unit {0}) Refusal → List ℕ
rows_of_answer line (Ok _) = []
rows_of_answer line (Err why) = refused_row line (code_of why)

-- the rows of a line: its moves, with the members' names after it, and then its refusal
unfoldable pub rows_of_line : List Topic → ℕ → WorldState → LineOutcome → List ℕ
rows_of_line topics line w outcome =
    move_rows topics outcome.after.cluster.group
    (drop (length w.cluster.group.moves) outcome.after.cluster.group.moves)
    ++ rows_of_answer line outcome.answer

-- a text, followed by the text of the rest
abbrev pub text_before : List ℕ → Result (List ℕ) Refusal → Result (List ℕ) Refusal
text_before text (Ok rest) = Ok (text ++ rest)
text_before text (Err fault) = Err fault

-- the rows of the lines in order, and then the closing rows; or the fault that ends the replay
unfoldable pub text_of_lines : List Topic → Option ℕ → ℕ → WorldState → List Line
    → Result (List ℕ) Refusal
text_of_lines topics top batch w [] = Ok (closing_rows topics top w.cluster)
text_of_lines topics top batch w (line ∷ lines) =
    let outcome : LineOutcome = outcome_of_line batch w line in
    unless_over outcome.answer
    (text_before (rows_of_line topics line.number w outcome)
    (text_of_lines topics top batch outcome.after lines))

-- ---- the report what a replay of lines over records writes, or its fault: the first record that
-- can't be appended, and only then a line that would pass the last generation
unfoldable pub report_of_lines : Options → List Keyed → List Line → Result (List ℕ) Refusal
report_of_lines options records lines =
    option_map_or Err (first_fault (partition_counts options) [] records)
    (text_of_lines options.topics.items options.top options.batch
    (loaded (opening_world (partition_counts options)) records) lines)

-- what a replay of a script over a file writes, or its fault: the first bad record, then the first
-- bad line, then the first record that can't be appended, then a line that would pass the last
-- generation
abbrev pub report_of_replay : Options → List ℕ → List ℕ → Result (List ℕ) Refusal
report_of_replay options file script =
    report_of_read
    (λ records. report_of_read (report_of_lines options records)
    (read_answer_in options.topics.items script))
    (records_of options file)
