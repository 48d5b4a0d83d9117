-- The lines of a script: their outcomes and their steps.
use Rattle.std.specs.Prelude.{◌≡◌, ℕ, ◌+◌, List, [], ◌∷◌, ◌++◌, length, unwrap_or, Result, Ok, Err}
use Rattle.lane_words.specs.declared.Refusal.{Refusal}
use Rattle.lane_words.specs.declared.Refusal.TheVariants as r
use Rattle.partition_log.specs.Keys.{of_first}
use Rattle.group_machine.specs.State.{GroupState, member_named}
use Rattle.script.specs.declared.action.Action.{Action}
use Rattle.script.specs.declared.action.Action.TheVariants.{Append, AppendIn, Join, Keep, Return, Rejoin, Sync, Leave, Lose, Poll, Send, Deliver, Unanswered, Settle, Drain}
use Rattle.script.specs.declared.replay.Line.{Line}
use Rattle.world.specs.Courses.{Course, answer_in}
use Rattle.world.specs.Draining.{draining}
use Rattle.world.specs.Observing.{seen_of}
use Rattle.world.specs.Settling.{settling}
use Rattle.world.specs.Steps.{Outcome, append_event, append_in_event, deliver_event, deliver_unanswered_event, join_event, join_kept_event, leave_event, lose_event, poll_event, rejoin_event, send_event, sync_event, take_over_event}
use Rattle.world.specs.World.{WorldState}
use Rattle.replay_steps.specs.declared.step.StepEvent.{StepEvent}
use Rattle.replay_steps.specs.declared.step.StepEvent.TheVariants as what
use Rattle.replay_steps.specs.Steps.{StepTaken, closing_step, name_of_member, sender_of, step_of, steps_of_seen}

-- ---- one line
-- the outcome of a line: its steps, its answer, and the world after it
pub record LineOutcome : Type 0 where
  pub steps : List StepTaken
  pub answer : Result (Unit {0}) Refusal
  pub after : WorldState

-- a line that is one event, about this member under this name
abbrev pub outcome_of_event : ℕ → StepEvent → ℕ → List ℕ → Outcome → LineOutcome
outcome_of_event line event member name outcome = record {
  steps = step_of line 1 event member name outcome ∷ [];
  answer = answer_in outcome.reply;
  after = outcome.after;
}

-- the delivery of a commit: it is about who sent it
abbrev pub outcome_of_delivery : ℕ → StepEvent → ℕ → Outcome → LineOutcome
outcome_of_delivery line event k outcome =
    let sender : ℕ = sender_of outcome.after k in
    outcome_of_event line event sender (name_of_member outcome.after sender) outcome

-- a line that settles or drains: the events that it chooses, and then the line itself
abbrev pub outcome_of_course : ℕ → StepEvent → WorldState → Course → LineOutcome
outcome_of_course line event w c = record {
  steps = steps_of_seen line 1 (seen_of w c.events)
      ++ closing_step line (1 + length (seen_of w c.events)) event c.answer c.after ∷ [];
  answer = c.answer;
  after = c.after;
}

-- the number of the member of this name, or 0, which is no member's number
abbrev pub number_named : GroupState → List ℕ → ℕ
number_named g name = unwrap_or (member_named g name) 0

-- a request of the member of this name
abbrev pub outcome_by_name : ℕ → StepEvent → WorldState → List ℕ → (ℕ → Outcome) → LineOutcome
outcome_by_name line event w name request =
    let member : ℕ = number_named w.cluster.group name in
    outcome_of_event line event member name (request member)

-- the outcome of the action of a line if no allocation fails. A poll of a drain takes at most
-- `batch` records.
unfoldable pub outcome_of_action : ℕ → WorldState → ℕ → Action → LineOutcome
outcome_of_action batch w line (Append key) =
    outcome_of_event line what.Append 0 [] (append_event w (of_first key))
outcome_of_action batch w line (AppendIn topic key) =
    outcome_of_event line what.Append 0 [] (append_in_event w (topic, key))
outcome_of_action batch w line (Join name) =
    outcome_of_event line what.Join 0 name (join_event w name)
outcome_of_action batch w line (Keep name) =
    outcome_of_event line what.Keep 0 name (join_kept_event w name)
outcome_of_action batch w line (Return name) =
    outcome_of_event line what.Return 0 name (take_over_event w name)
outcome_of_action batch w line (Rejoin name) =
    outcome_by_name line what.Rejoin w name (rejoin_event w)
outcome_of_action batch w line (Sync name) = outcome_by_name line what.Sync w name (sync_event w)
outcome_of_action batch w line (Leave name) = outcome_by_name line what.Leave w name (leave_event w)
outcome_of_action batch w line (Lose name) = outcome_by_name line what.Lose w name (lose_event w)
outcome_of_action batch w line (Poll name p n) =
    outcome_by_name line (what.Poll p) w name (λ m. poll_event w m p n)
outcome_of_action batch w line (Send name p) =
    outcome_by_name line (what.Send p) w name (λ m. send_event w m p)
outcome_of_action batch w line (Deliver k) =
    outcome_of_delivery line (what.Deliver k) k (deliver_event w k)
outcome_of_action batch w line (Unanswered k) =
    outcome_of_delivery line (what.Unanswered k) k (deliver_unanswered_event w k)
outcome_of_action batch w line Settle = outcome_of_course line what.Settle w (settling w)
outcome_of_action batch w line Drain = outcome_of_course line what.Drain w (draining batch w)

abbrev pub outcome_of_line : ℕ → WorldState → Line → LineOutcome
outcome_of_line batch w line = outcome_of_action batch w line.number line.action

-- ---- all lines
-- a line that would pass the last generation ends a script with that fault
abbrev pub unless_over : {A : Type 0} → Result (Unit {0}) Refusal → Result A Refusal
    → Result A Refusal
unless_over (Err r.GenerationsOver) rest = Err r.GenerationsOver
unless_over answer rest = rest

-- items, followed by those of the rest
abbrev pub items_before : {A : Type 0} → List A → Result (List A) Refusal → Result (List A) Refusal
items_before items (Ok rest) = Ok (items ++ rest)
items_before items (Err fault) = Err fault

-- the steps of the lines in order, or the fault that ends the script
unfoldable pub steps_of_lines : ℕ → WorldState → List Line → Result (List StepTaken) Refusal
steps_of_lines batch w [] = Ok []
steps_of_lines batch w (line ∷ lines) =
    let outcome : LineOutcome = outcome_of_line batch w line in
    unless_over outcome.answer
    (items_before outcome.steps (steps_of_lines batch outcome.after lines))

-- the world after these steps: that of the last one
unfoldable pub world_after : WorldState → List StepTaken → WorldState
world_after w [] = w
world_after w (step ∷ steps) = world_after step.after steps

-- a line has a last step, and ends with its answer in its world
pub record EndsWithItsSteps (outcome : LineOutcome) : Type 0 where
  pub before : List StepTaken
  pub last : StepTaken
  pub steps_are : outcome.steps ≡ before ++ last ∷ []
  pub answer_is : last.answer ≡ outcome.answer
  pub after_is : last.after ≡ outcome.after
