-- What an observer sees of a course.
use Rattle.std.specs.Prelude.{◌≡◌, ◌⊎◌, List, [], ◌∷◌, Result, Err}
use Rattle.lane_words.specs.declared.Refusal.{Refusal}
use Rattle.lane_words.specs.declared.Refusal.TheVariants as r
use Rattle.world.specs.declared.event.Event.{Event}
use Rattle.world.specs.declared.event.Reply.{Reply}
use Rattle.world.specs.Courses.{Course, IsOnTheWay, outcome_of}
use Rattle.world.specs.World.{WorldState}

-- an event that came about: the reply to it, and the world after it
pub record Seen : Type 0 where
  pub event : Event
  pub reply : Reply
  pub after : WorldState

-- these events as they come about in a world, one after the other
abbrev pub seen_of : WorldState → List Event → List Seen
seen_of w [] = []
seen_of w (event ∷ events) =
    record { event = event; reply = (outcome_of w event).reply; after = (outcome_of w event).after }
    ∷ seen_of (outcome_of w event).after events

-- a call follows a course, of which an observer sees each event, in order; or memory runs out, the
-- observer's too, and the events so far stand. `Sees` says what an observer has seen
abbrev pub FollowsObserved : {O : Type 0} → (O → List Seen → O → Type 0) → WorldState → O → Course
    → Result (Unit {0}) Refusal → WorldState → O → Type 0
FollowsObserved Sees w o c result w2 o2 =
    ((result ≡ c.answer) × (w2 ≡ c.after) × Sees o (seen_of w c.events) o2)
    ⊎ ((result ≡ Err r.Memory) × IsOnTheWay w c w2)
