-- Partitions by their topics, and the lanes that they share.
use Rattle.std.specs.Prelude.{ℕ, zero, suc, ◌+◌, ◌-◌, ◌==◌, ◌&&◌, ◌||◌, not, nat_le, nat_lt, Bool, true, false, List, [], ◌∷◌, ◌++◌, codes, count_by, length, slice_get, if◌then◌else◌}
use Rattle.std.specs.Option.{option_map_or}
use Rattle.partitioner.specs.declared.topic.Topic.{Topic}
use Rattle.timeline.specs.Timelines.{course_of}
use Rattle.timeline.specs.Holders.{are_same_spans}
use Rattle.timeline.specs.declared.parts.Span.{Span}

-- A partition: the name of its topic, which is empty without topics, and its number there
pub record Place : Type 0 where
  pub topic : List ℕ
  pub number : ℕ

abbrev pub place_of : List Topic → ℕ → Place
place_of [] p = record { topic = []; number = p }
place_of (topic ∷ topics) p =
    if nat_lt p topic.partitions then record { topic = topic.name; number = p }
    else place_of topics (p - topic.partitions)

-- a space, where there is a name before it
abbrev pub space_after : List ℕ → List ℕ
space_after [] = []
space_after (letter ∷ letters) = codes " "

-- A partition begins a lane if it is the first of its topic, or if its course is another one than
-- that of the partition before it
abbrev pub begins_lane : List Topic → List (List Span) → ℕ → Bool
begins_lane topics lanes p =
    ((place_of topics p).number == 0)
    || not (are_same_spans (course_of lanes (p - 1)) (course_of lanes p))

-- the partitions below p that begin a lane
abbrev pub starts_below : List Topic → List (List Span) → ℕ → List ℕ
starts_below topics lanes zero = []
starts_below topics lanes (suc p) =
    starts_below topics lanes p ++ (if begins_lane topics lanes p then p ∷ [] else [])

-- the first partition of each lane
abbrev pub lane_starts : List Topic → List (List Span) → List ℕ
lane_starts topics lanes = starts_below topics lanes (length lanes)

-- the lane of a partition: how many lanes begin at or before it, less one
abbrev pub lane_of : List ℕ → ℕ → ℕ
lane_of starts p = count_by (λ start. nat_le start p) starts - 1

-- the last partition of a lane, of this many partitions
abbrev pub last_of : List ℕ → ℕ → ℕ → ℕ
last_of starts partitions lane =
    option_map_or (λ start. start) (slice_get starts (lane + 1)) partitions - 1
