-- What an observer is shown of a script. `Shows` says what it has been shown.
use Rattle.std.specs.Prelude.{◌≡◌, ◌≢◌, ◌⊎◌, List, Result, Ok, Err}
use Rattle.lane_words.specs.declared.Refusal.{Refusal}
use Rattle.lane_words.specs.declared.Refusal.TheVariants as r
use Rattle.world.specs.World.{WorldState}
use Rattle.replay_steps.specs.Lines.{LineOutcome, world_after}
use Rattle.replay_steps.specs.Steps.{StepTaken}

-- the answer and the world of this outcome, which does not end the script, and all its steps were
-- shown
pub record IsShownLine {O : Type 0} (Shows : O → List StepTaken → O → Type 0)
    (outcome : LineOutcome) (o : O) (answer : Result (Unit {0}) Refusal) (w2 : WorldState) (o2 : O)
    : Type 0 where
  pub answer_is : answer ≡ outcome.answer
  pub after_is : w2 ≡ outcome.after
  pub shown : Shows o outcome.steps o2
  pub not_over : outcome.answer ≢ Err r.GenerationsOver

-- all steps of a script were shown, and this is the world after the last one
pub record AreShown {O : Type 0} (Shows : O → List StepTaken → O → Type 0)
    (expected : Result (List StepTaken) Refusal) (w : WorldState) (o : O) (w2 : WorldState) (o2 : O)
    : Type 0 where
  pub steps : List StepTaken
  pub steps_are : expected ≡ Ok steps
  pub world_is : w2 ≡ world_after w steps
  pub shown : Shows o steps o2

-- a line would pass the last generation
abbrev pub IsOver : Refusal → Result (Unit {0}) Refusal → Type 0
IsOver fault answer = (fault ≡ r.GenerationsOver) × (answer ≡ Err r.GenerationsOver)

-- memory ran out, or a line would pass the last generation
abbrev pub IsLineFault : Result (Unit {0}) Refusal → Refusal → Type 0
IsLineFault answer fault = (fault ≡ r.Memory) ⊎ IsOver fault answer

-- memory ran out, or a line of a script would pass the last generation
abbrev pub IsScriptFault : Result (List StepTaken) Refusal → Refusal → Type 0
IsScriptFault expected fault =
    (fault ≡ r.Memory) ⊎ ((fault ≡ r.GenerationsOver) × (expected ≡ Err r.GenerationsOver))
