-- The lines of a replay, one by one.
use Rattle.std.specs.Prelude.{◌≡◌, ◌++◌, ℕ, List, Result, Ok}
use Rattle.lane_words.specs.declared.Refusal.{Refusal}
use Rattle.script.specs.declared.replay.Line.{Line}
use Rattle.partitioner.specs.declared.topic.Topic.{Topic}
use Rattle.world.specs.World.{WorldState}
use Rattle.replay_report.specs.ReplayReport.{rows_of_line}
use Rattle.replay_steps.specs.Lines.{outcome_of_line}

-- the expected text was written after this one
abbrev pub WritesText : Result (List ℕ) Refusal → List ℕ → (List ℕ → Type 0) → Type 0
WritesText expected text Written = (more : List ℕ) × (expected ≡ Ok more) × Written (text ++ more)

-- the rows of a line in a world
abbrev pub line_rows : List Topic → ℕ → WorldState → Line → List ℕ
line_rows topics batch w line =
    rows_of_line topics line.number w (outcome_of_line batch w line)
