-- A trace, next to the replay of the same script.
use Rattle.std.specs.Prelude.{◌≡◌, ℕ, List, ◌++◌, Option, Result, Ok, Err}
use Rattle.lane_words.specs.declared.Refusal.{Refusal}
use Rattle.partitioner.specs.declared.topic.Topic.{Topic}
use Rattle.report_rows.specs.ReplayRows.{closing_rows}
use Rattle.replay_report.specs.ReplayReport.{text_of_lines}
use Rattle.replay_steps.specs.Lines.{steps_of_lines, world_after}
use Rattle.replay_steps.specs.Steps.{StepTaken}
use Rattle.script.specs.declared.replay.Line.{Line}
use Rattle.world.specs.World.{WorldState}

-- a text ends with the closing rows of the world after these steps
abbrev pub ClosesAfter : List Topic → Option ℕ → WorldState → List StepTaken → List ℕ → Type 0
ClosesAfter topics top w steps text =
    (rows : List ℕ) × (text ≡ rows ++ closing_rows topics top (world_after w steps).cluster)

-- the text of a replay, or its fault, is told by the steps of the script, or their fault
abbrev pub IsToldBy : List Topic → Option ℕ → WorldState → Result (List StepTaken) Refusal
    → Result (List ℕ) Refusal → Type 0
IsToldBy topics top w (Ok steps) (Ok text) = ClosesAfter topics top w steps text
IsToldBy topics top w (Ok steps) (Err fault) = ⊥
IsToldBy topics top w (Err fault) replayed = replayed ≡ Err fault

abbrev pub TellsOfReplay : List Topic → Option ℕ → ℕ → WorldState → List Line → Type 0
TellsOfReplay topics top batch w lines =
    IsToldBy topics top w (steps_of_lines batch w lines) (text_of_lines topics top batch w lines)
