-- The steps of a script: each event that comes about in a world, and the ends of settling and
-- draining.
use Rattle.std.specs.Prelude.{ℕ, ◌+◌, List, [], ◌∷◌, Option, Some, None, unwrap_or, Result}
use Rattle.std.specs.Option.{option_map_or}
use Rattle.lane_words.specs.declared.Refusal.{Refusal}
use Rattle.group_machine.specs.Cluster.{CommitTerms}
use Rattle.group_machine.specs.State.{name_of}
use Rattle.world.specs.declared.event.Event.{Event}
use Rattle.world.specs.declared.event.Event.TheVariants as event
use Rattle.world.specs.declared.event.Reply.{Reply}
use Rattle.world.specs.Courses.{answer_in}
use Rattle.world.specs.Observing.{Seen}
use Rattle.world.specs.Steps.{Outcome}
use Rattle.world.specs.World.{WorldState, commit_at}
use Rattle.replay_steps.specs.declared.step.Step.{Step}
use Rattle.replay_steps.specs.declared.step.StepEvent.{StepEvent}
use Rattle.replay_steps.specs.declared.step.StepEvent.TheVariants as what

-- a step, and the world after it. `number` counts the steps of a line from 1; `member` is 0 if the
-- step is about none; `reply` is nothing at the end of a settling or a draining
pub record StepTaken : Type 0 where
  pub line : ℕ
  pub number : ℕ
  pub event : StepEvent
  pub member : ℕ
  pub name : List ℕ
  pub reply : Option Reply
  pub answer : Result (Unit {0}) Refusal
  pub after : WorldState

-- a step as it is shown
abbrev pub taken : Step → WorldState → StepTaken
taken step w = record {
  line = step.line;
  number = step.number;
  event = step.event;
  member = step.member;
  name = step.name.now;
  reply = step.reply;
  answer = step.answer;
  after = w;
}

-- ---- the steps of events
-- what happens in an event
abbrev pub step_event : Event → StepEvent
step_event (event.Append key) = what.Append
step_event (event.AppendIn topic key) = what.Append
step_event (event.Join name) = what.Join
step_event (event.JoinKept name) = what.Keep
step_event (event.TakeOver name) = what.Return
step_event (event.Sync m) = what.Sync
step_event (event.Rejoin m) = what.Rejoin
step_event (event.Leave m) = what.Leave
step_event (event.Lose m) = what.Lose
step_event (event.Poll m p n) = what.Poll p
step_event (event.Send m p) = what.Send p
step_event (event.Deliver k) = what.Deliver k
step_event (event.DeliverUnanswered k) = what.Unanswered k

-- the member that sent a commit of the mail, or 0 if there is no such commit
abbrev pub sender_of : WorldState → ℕ → ℕ
sender_of w k = option_map_or (λ (c : CommitTerms). c.member) (commit_at w k) 0

-- the number of the member that an event is about, or 0 if there is none
abbrev pub member_of : WorldState → Event → ℕ
member_of w (event.Sync m) = m
member_of w (event.Rejoin m) = m
member_of w (event.Leave m) = m
member_of w (event.Lose m) = m
member_of w (event.Poll m p n) = m
member_of w (event.Send m p) = m
member_of w (event.Deliver k) = sender_of w k
member_of w (event.DeliverUnanswered k) = sender_of w k
member_of w event = 0

-- the name of a member, or nothing if there is none of this number
abbrev pub name_of_member : WorldState → ℕ → List ℕ
name_of_member w m = unwrap_or (name_of w.cluster.group m) []

-- the step of an event with this outcome, about this member under this name
abbrev pub step_of : ℕ → ℕ → StepEvent → ℕ → List ℕ → Outcome → StepTaken
step_of line number event member name outcome = record {
  line = line;
  number = number;
  event = event;
  member = member;
  name = name;
  reply = Some outcome.reply;
  answer = answer_in outcome.reply;
  after = outcome.after;
}

-- the step of an event with this reply, in the world after it
abbrev pub step_replied : ℕ → ℕ → StepEvent → ℕ → List ℕ → Reply → WorldState → StepTaken
step_replied line number event member name reply w =
    step_of line number event member name (record { reply = reply; after = w })

-- the step of an event that a settling or a draining chose
abbrev pub step_of_seen : ℕ → ℕ → Seen → StepTaken
step_of_seen line number seen =
    let member : ℕ = member_of seen.after seen.event in
    step_replied line number (step_event seen.event) member (name_of_member seen.after member)
    seen.reply seen.after

-- the steps of such events, of which the first has this number
abbrev pub steps_of_seen : ℕ → ℕ → List Seen → List StepTaken
steps_of_seen line number [] = []
steps_of_seen line number (seen ∷ rest) =
    step_of_seen line number seen ∷ steps_of_seen line (number + 1) rest

-- the last step of a line that settles or drains: the line itself, with its answer
abbrev pub closing_step : ℕ → ℕ → StepEvent → Result (Unit {0}) Refusal → WorldState → StepTaken
closing_step line number event answer w = record {
  line = line;
  number = number;
  event = event;
  member = 0;
  name = [];
  reply = None;
  answer = answer;
  after = w;
}
