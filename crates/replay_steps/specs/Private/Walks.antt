-- Walks over the steps of a line.
use Rattle.std.specs.Prelude.{◌≡◌, ◌+◌, ℕ, List, [], Result, IfOk, length, ⊤}
use Rattle.lane_words.specs.declared.Refusal.{Refusal}
use Rattle.script.specs.declared.action.Action.{Action}
use Rattle.script.specs.declared.action.Action.TheVariants.{Join, Keep, Return, Rejoin, Sync, Leave, Lose, Poll, Send, Deliver, Unanswered, Settle, Drain}
use Rattle.world.specs.declared.event.Event.{Event}
use Rattle.world.specs.Courses.{outcome_of}
use Rattle.world.specs.Observing.{Seen}
use Rattle.world.specs.Steps.{Outcome}
use Rattle.world.specs.World.{WorldState}
use Rattle.replay_steps.specs.Lines.{LineOutcome, outcome_of_action, outcome_of_event}
use Rattle.replay_steps.specs.Steps.{StepTaken, member_of, name_of_member, step_event, steps_of_seen}

-- the steps of these events were shown, in the line, from this number on
pub record ShowsOfLine {O : Type 0} (Shows : O → List StepTaken → O → Type 0)
    (line next : ℕ) (o : O) (seen : List Seen) (line2 next2 : ℕ) (o2 : O) : Type 0 where
  pub line_is : line2 ≡ line
  pub next_is : next2 ≡ next + length seen
  pub shown : Shows o (steps_of_seen line next seen) o2

-- a line that stands for one event
abbrev pub IsEvent : Action → Type 0
IsEvent Settle = ⊥
IsEvent Drain = ⊥
IsEvent action = ⊤

-- a line was performed, and all its steps were shown
pub record IsPerformed {O : Type 0} (Shows : O → List StepTaken → O → Type 0)
    (outcome : LineOutcome) (o : O) (answer : Result (Unit {0}) Refusal) (w2 : WorldState) (o2 : O)
    : Type 0 where
  pub answer_is : answer ≡ outcome.answer
  pub after_is : w2 ≡ outcome.after
  pub shown : Shows o outcome.steps o2

-- it was performed, unless memory ran out
abbrev pub Performs : {O E : Type 0} → (O → List StepTaken → O → Type 0) → LineOutcome → O
    → Result (Result (Unit {0}) Refusal) E → WorldState → O → Type 0
Performs Shows outcome o result w2 o2 =
    IfOk result (λ answer. IsPerformed Shows outcome o answer w2 o2)

-- the name that an action gives; else that of the member
abbrev pub name_for : WorldState → Action → ℕ → List ℕ
name_for w (Join name) m = name
name_for w (Keep name) m = name
name_for w (Return name) m = name
name_for w (Rejoin name) m = name
name_for w (Sync name) m = name
name_for w (Leave name) m = name
name_for w (Lose name) m = name
name_for w (Poll name p n) m = name
name_for w (Send name p) m = name
name_for w (Deliver k) m = name_of_member w m
name_for w (Unanswered k) m = name_of_member w m
name_for w action m = []

-- a line is this event, with its outcome
abbrev pub IsEventOf : WorldState → Action → Event → Type 0
IsEventOf w action event =
    (batch line : ℕ) → outcome_of_action batch w line action
    ≡ (let outcome : Outcome = outcome_of w event in
    let member : ℕ = member_of outcome.after event in
    outcome_of_event line (step_event event) member (name_for outcome.after action member) outcome)
