-- Which commits the cluster accepts in a course, and which records they count.
use Rattle.std.specs.Prelude.{◌≡◌, ◌≤◌, ◌<◌, ℕ, ◌+◌, ◌==◌, ◌&&◌, Bool, List, [], ◌∷◌, ◌++◌, Option, Some, None, Result, Ok, Err, filter, length, nat_le, nat_lt}
use Rattle.lane_words.specs.declared.Refusal.{Refusal}
use Rattle.lane_words.specs.declared.Refusal.TheVariants as r
use Rattle.group_machine.specs.Cluster.{CommitTerms, cluster_commit_answer, committed_at}
use Rattle.world.specs.declared.event.Event.{Event}
use Rattle.world.specs.declared.event.Event.TheVariants as event
use Rattle.world.specs.Courses.{after_all, outcome_of}
use Rattle.world.specs.World.{WorldState, commit_at}

-- a commit that was accepted, or nothing
abbrev pub if_accepted : CommitTerms → Result ℕ Refusal → List CommitTerms
if_accepted c (Ok offset) = c ∷ []
if_accepted c (Err why) = []

abbrev pub accepted_of : WorldState → Option CommitTerms → List CommitTerms
accepted_of w None = []
accepted_of w (Some c) = if_accepted c (cluster_commit_answer w.cluster c)

-- the commit that an event delivers, if the cluster accepts it
abbrev pub accepted_by : WorldState → Event → List CommitTerms
accepted_by w (event.Deliver k) = accepted_of w (commit_at w k)
accepted_by w (event.DeliverUnanswered k) = accepted_of w (commit_at w k)
accepted_by w event = []

-- the commits that the cluster accepts in the course of these events, in order
abbrev pub accepted_in : WorldState → List Event → List CommitTerms
accepted_in w [] = []
accepted_in w (event ∷ events) =
    accepted_by w event ++ accepted_in (outcome_of w event).after events

-- whether the record of a partition at an offset is among those of a commit
abbrev pub counts_record : ℕ → ℕ → CommitTerms → Bool
counts_record p offset c =
    (c.partition == p) && nat_le c.from offset && nat_lt offset (c.from + length c.ids)

-- how many of the commits accepted in a course count the record of a partition at an offset
abbrev pub times_counted : WorldState → List Event → ℕ → ℕ → ℕ
times_counted w events p offset = length (filter (counts_record p offset) (accepted_in w events))

-- the record of a partition at an offset is not committed before these events, and is after them
abbrev pub GetsCommitted : WorldState → List Event → ℕ → ℕ → Type 0
GetsCommitted w events p offset =
    (committed_at w.cluster.store p ≤ offset)
    × (offset < committed_at (after_all w events).cluster.store p)

-- ---- a commit after these events
-- the answer of the cluster to it
abbrev pub answer_after : WorldState → List Event → CommitTerms → Result ℕ Refusal
answer_after w events c = cluster_commit_answer (after_all w events).cluster c

-- it is refused, since its member is unknown
abbrev pub IsUnknownAfter : WorldState → List Event → CommitTerms → Type 0
IsUnknownAfter w events c = answer_after w events c ≡ Err r.UnknownMember

-- it is refused
abbrev pub IsRefusedAfter : WorldState → List Event → CommitTerms → Type 0
IsRefusedAfter w events c = (offset : ℕ) → answer_after w events c ≡ Ok offset → ⊥
