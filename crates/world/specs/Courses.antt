-- Courses: each event depends on the world that the one before it left; the first refusal ends it.
use Rattle.std.specs.Prelude.{◌≡◌, ◌⊎◌, ℕ, List, [], ◌∷◌, ◌++◌, Result, Ok, Err}
use Rattle.lane_words.specs.declared.Refusal.{Refusal}
use Rattle.lane_words.specs.declared.Refusal.TheVariants as r
use Rattle.world.specs.declared.event.Event.{Event}
use Rattle.world.specs.declared.event.Event.TheVariants as event
use Rattle.world.specs.declared.event.Reply.{Reply}
use Rattle.world.specs.declared.event.Reply.TheVariants as reply
use Rattle.partition_log.specs.Keys.{of_first}
use Rattle.world.specs.Steps.{Outcome, append_event, append_in_event, deliver_event, deliver_unanswered_event, join_event, join_kept_event, leave_event, lose_event, poll_event, rejoin_event, send_event, sync_event, take_over_event}
use Rattle.world.specs.World.{WorldState}

-- the outcome of an event if memory does not run out
abbrev pub outcome_of : WorldState → Event → Outcome
outcome_of w (event.Append key) = append_event w (of_first key.now)
outcome_of w (event.AppendIn topic key) = append_in_event w (topic, key.now)
outcome_of w (event.Join name) = join_event w name.now
outcome_of w (event.JoinKept name) = join_kept_event w name.now
outcome_of w (event.TakeOver name) = take_over_event w name.now
outcome_of w (event.Sync m) = sync_event w m
outcome_of w (event.Rejoin m) = rejoin_event w m
outcome_of w (event.Leave m) = leave_event w m
outcome_of w (event.Lose m) = lose_event w m
outcome_of w (event.Poll m p n) = poll_event w m p n
outcome_of w (event.Send m p) = send_event w m p
outcome_of w (event.Deliver k) = deliver_event w k
outcome_of w (event.DeliverUnanswered k) = deliver_unanswered_event w k

-- the events, in order; the answer; and the world after them
pub record Course : Type 0 where
  pub events : List Event
  pub answer : Result (Unit {0}) Refusal
  pub after : WorldState

-- no event, with this answer
abbrev pub answered_at_once : Result (Unit {0}) Refusal → WorldState → Course
answered_at_once answer w = record { events = []; answer = answer; after = w }

-- nothing is to be done
abbrev pub nothing : WorldState → Course
nothing w = answered_at_once (Ok tt) w

abbrev pub answer_in : Reply → Result (Unit {0}) Refusal
answer_in (reply.Refused why) = Err why
answer_in reply = Ok tt

-- one event
unfoldable pub happens : Event → WorldState → Course
happens event w = record {
  events = event ∷ [];
  answer = answer_in (outcome_of w event).reply;
  after = (outcome_of w event).after;
}

abbrev pub goes_on : Course → Course → Result (Unit {0}) Refusal → Course
goes_on first second (Ok _) = record {
  events = first.events ++ second.events;
  answer = second.answer;
  after = second.after;
}
goes_on first second (Err why) = first

-- one course, and unless it is refused the next one, in the world after it
unfoldable pub chain : Course → (WorldState → Course) → Course
chain first next = goes_on first (next first.after) first.answer

-- a course for each of some numbers, one after the other
unfoldable pub for_each : List ℕ → (ℕ → WorldState → Course) → WorldState → Course
for_each [] course w = nothing w
for_each (n ∷ ns) course w = chain (course n w) (for_each ns course)

-- ---- what a call does that follows a course
-- the world after these events
abbrev pub after_all : WorldState → List Event → WorldState
after_all w [] = w
after_all w (event ∷ events) = after_all (outcome_of w event).after events

-- a world after some of the events of a course, and not yet the others
pub record IsOnTheWay (w : WorldState) (c : Course) (w2 : WorldState) : Type 0 where
  pub came : List Event
  pub left : List Event
  pub events_are : c.events ≡ came ++ left
  pub world_is : w2 ≡ after_all w came

-- a call follows a course: it makes all its events and has its answer; or memory runs out at one of
-- them, and the events before it stand
abbrev pub Follows : WorldState → Course → Result (Unit {0}) Refusal → WorldState → Type 0
Follows w c result w2 =
    ((result ≡ c.answer) × (w2 ≡ c.after)) ⊎ ((result ≡ Err r.Memory) × IsOnTheWay w c w2)
