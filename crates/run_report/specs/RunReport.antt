-- The report of a run: a text, or a fault. It is a function of the records and the plan: whatever
-- the schedule of the threads, each record is committed and counted once.
use Rattle.std.specs.Prelude.{◌==◌, ℕ, List, [], ◌++◌, length, filter, Option, Result, Err, IsOk, IfSome}
use Rattle.std.specs.Io.KnownBytes.{Keeps}
use Rattle.std.specs.List.{sum}
use Rattle.lane_words.specs.declared.Refusal.{Refusal}
use Rattle.lane_words.specs.declared.Refusal.TheVariants as r
use Rattle.partition_log.specs.Keys.{Keyed, keys_in}
use Rattle.group_machine.specs.State.{GroupState}
use Rattle.script.specs.Plan.{plan_answer}
use Rattle.script.specs.declared.plan.Change.{Change}
use Rattle.partitioner.specs.declared.topic.Topic.{Topic}
use Rattle.workers.specs.Plans.{settled}
use Rattle.command_line.specs.declared.options.Options.{Options}
use Rattle.ingest.specs.RecordFaults.{fault_or, first_fault}
use Rattle.report_rows.specs.CountRows.{plain_text}
use Rattle.ingest.specs.Records.{partition_counts, partition_of_record, records_of}
use Rattle.report_rows.specs.ReplayRows.{move_rows, offset_row, owner_rows, rows_below}
use Rattle.ingest.specs.Reports.{WritesReport, report_of_read}

-- the number of these records in a partition, which is its end offset
abbrev pub records_to : List ℕ → List Keyed → ℕ → ℕ
records_to counts records p =
    length (filter (λ keyed. partition_of_record counts keyed == p) records)

-- the offset row of each partition, with its end committed
abbrev pub ended_rows : List Topic → List ℕ → List Keyed → List ℕ
ended_rows topics counts records =
    rows_below (sum counts)
    (λ p. offset_row topics p (records_to counts records p) (records_to counts records p))

-- the moves of a group and its owners
abbrev pub group_rows : List Topic → GroupState → List ℕ
group_rows topics g = move_rows topics g g.moves ++ owner_rows topics g

-- the moves and the owners that a plan leads to, the offsets, and what a count of the keys writes,
-- among topics with these numbers of partitions
unfoldable pub text_of_run : List Topic → Option ℕ → List ℕ → List Keyed → List Change → List ℕ
text_of_run topics top counts records plan =
    group_rows topics (settled (sum counts) plan) ++ ended_rows topics counts records
    ++ plain_text top (keys_in records)

-- what a run of a plan over records writes, or its fault: the first record that can't be appended
unfoldable pub report_of_plan : Options → List Keyed → List Change → Result (List ℕ) Refusal
report_of_plan options records plan =
    fault_or (first_fault (partition_counts options) [] records)
    (text_of_run options.topics.items options.top (partition_counts options) records plan)

-- what a run of a script over a file writes, or its fault: the first bad record, then the first bad
-- line, and only then the first record that can't be appended
abbrev pub report_of_run : Options → List ℕ → List ℕ → Result (List ℕ) Refusal
report_of_run options file script =
    report_of_read
    (λ records. report_of_read (report_of_plan options records) (plan_answer script))
    (records_of options file)

-- what an answer says of the bytes written, given the report. A run that was stopped, or that
-- differed from what it was given, has written nothing, and its report is a text
abbrev pub WritesRun : Result (List ℕ) Refusal → Option (List ℕ) → Option (List ℕ)
    → Result (Unit {0}) Refusal → Type 0
WritesRun report old new (Err r.GateLimit) = IsOk report × Keeps old new
WritesRun report old new (Err r.Differs) = IsOk report × Keeps old new
WritesRun report old new result = WritesReport report old new result

-- if the bytes of a file and of a script are known, the report of their run is written
abbrev pub WritesRunIfKnown : (List ℕ → List ℕ → Result (List ℕ) Refusal) → Option (List ℕ)
    → Option (List ℕ) → Option (List ℕ) → Option (List ℕ) → Result (Unit {0}) Refusal → Type 0
WritesRunIfKnown report file script old new result =
    IfSome file (λ bytes. IfSome script (λ lines. WritesRun (report bytes lines) old new result))
