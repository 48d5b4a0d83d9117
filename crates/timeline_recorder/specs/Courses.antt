-- The courses of partitions: who holds them, step by step.
use Rattle.std.specs.Prelude.{ℕ, zero, suc, ◌-◌, Bool, true, false, not, ◌||◌, List, [], ◌∷◌, ◌++◌, Option, Some, None, length, map, slice_get, if◌then◌else◌}
use Rattle.std.specs.List.{range_with_len}
use Rattle.std.specs.Option.{option_map_or}
use Rattle.group_machine.specs.State.{owner_of}
use Rattle.consumer.specs.Consumer.{is_held}
use Rattle.world.specs.World.{WorldState, consumer_of}
use Rattle.timeline.specs.Holders.{is_same_holder}
use Rattle.timeline.specs.Timelines.{course_of}
use Rattle.timeline.specs.declared.parts.Holder.{Holder}
use Rattle.timeline.specs.declared.parts.Holder.TheVariants as holder
use Rattle.timeline.specs.declared.parts.Span.{Span}

-- the consumer of a member holds a partition
abbrev pub is_held_by : WorldState → ℕ → ℕ → Bool
is_held_by w m p = option_map_or (λ c. is_held c p) (consumer_of w m) false

abbrev pub granted_or_read : WorldState → ℕ → Option ℕ → Holder
granted_or_read w p None = holder.Nobody
granted_or_read w p (Some m) =
    if is_held_by w m p then holder.Reading m else holder.Granted m

-- Who holds a partition: the present member that it is granted to reads it, if its consumer holds
-- it. No other present member's consumer ever does
unfoldable pub holder_in : WorldState → ℕ → Holder
holder_in w p = granted_or_read w p (owner_of w.cluster.group p)

-- the last span of a course has this holder
abbrev pub is_still : List Span → Holder → Bool
is_still spans held =
    option_map_or (λ span. is_same_holder span.holder held) (slice_get spans (length spans - 1))
    false

-- a course goes on, with a new span from a column on if it has another holder
unfoldable pub extended : ℕ → Holder → List Span → List Span
extended column held spans =
    if is_still spans held then spans else spans ++ record { from = column; holder = held } ∷ []

-- the courses of all partitions go on, in the world after a step
unfoldable pub extended_courses : ℕ → WorldState → List (List Span) → List (List Span)
extended_courses column w lanes =
    map (λ p. extended column (holder_in w p) (course_of lanes p)) (range_with_len 0 (length lanes))

-- a partition below p has another holder than before
abbrev pub is_changed_below : ℕ → WorldState → List (List Span) → Bool
is_changed_below zero w lanes = false
is_changed_below (suc p) w lanes =
    is_changed_below p w lanes || not (is_still (course_of lanes p) (holder_in w p))

-- some partition has another holder than before
abbrev pub is_changed : WorldState → List (List Span) → Bool
is_changed w lanes = is_changed_below (length lanes) w lanes
