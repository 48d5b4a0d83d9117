-- The rows of a trace.
use Rattle.std.specs.Prelude.{ℕ, List, [], ◌∷◌, ◌++◌, codes, decimal, flat_map}
use Rattle.csv.specs.Writing.{row_text}
use Rattle.partitioner.specs.declared.topic.Topic.{Topic}
use Rattle.report_rows.specs.Rows.{row_writer}
use Rattle.world.specs.World.{WorldState}
use Rattle.replay_steps.specs.Steps.{StepTaken}
use Rattle.trace_report.specs.Cells.{code_cell, details_of, event_word, lag, number_cell, partition_cells, phase_word, reason_cell, waiting_cell}
use Rattle.trace_report.specs.declared.cells.Details.{Details}
use Rattle.trace_report.specs.Sets.{granted_cell, unread_cell}

-- the column of the partition; with topics that of the topic before it
abbrev pub partition_columns : List Topic → List (List ℕ)
partition_columns [] = codes "partition" ∷ []
partition_columns topics = codes "topic" ∷ codes "partition" ∷ []

-- the first row
unfoldable pub header_row : List Topic → List ℕ
header_row topics =
    row_text row_writer
    (codes "line" ∷ codes "step" ∷ codes "event" ∷ codes "member" ∷ partition_columns topics
    ++ codes "from" ∷ codes "to" ∷ codes "commit" ∷ codes "code" ∷ codes "reason"
    ∷ codes "generation" ∷ codes "phase" ∷ codes "waiting" ∷ codes "granted" ∷ codes "unread"
    ∷ codes "lag" ∷ [])

-- the cells of a step before those of its partition
abbrev pub cells_before : StepTaken → List (List ℕ)
cells_before step =
    decimal step.line ∷ decimal step.number ∷ event_word step.event ∷ step.name ∷ []

-- its offsets, its commit, and why it was refused
abbrev pub cells_between : StepTaken → Details → List (List ℕ)
cells_between step details =
    number_cell details.from ∷ number_cell details.to ∷ number_cell details.commit
    ∷ code_cell step.answer ∷ reason_cell step.answer ∷ []

-- the group after it
abbrev pub group_cells : List Topic → WorldState → List (List ℕ)
group_cells topics w =
    decimal w.cluster.group.generation ∷ phase_word w.cluster.group.phase ∷ waiting_cell w
    ∷ granted_cell topics w ∷ unread_cell topics w ∷ decimal (lag w.cluster) ∷ []

-- the cells of the row of a step
abbrev pub cells_of_step : List Topic → StepTaken → List (List ℕ)
cells_of_step topics step =
    cells_before step
    ++ partition_cells topics step.after.cluster.group.partitions (details_of step).partition
    ++ cells_between step (details_of step) ++ group_cells topics step.after

-- the row of a step
abbrev pub row_of_step : List Topic → StepTaken → List ℕ
row_of_step topics step = row_text row_writer (cells_of_step topics step)

-- the rows of steps, in order
abbrev pub rows_of_steps : List Topic → List StepTaken → List ℕ
rows_of_steps topics steps = flat_map (row_of_step topics) steps
