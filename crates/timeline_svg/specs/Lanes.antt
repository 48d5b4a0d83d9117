-- The lanes: a label and bands for the partitions that share one.
use Rattle.std.specs.Prelude.{ℕ, ◌+◌, List, [], ◌∷◌, ◌++◌, codes, decimal, length, slice_get}
use Rattle.std.specs.List.{concat}
use Rattle.std.specs.Option.{option_map_or}
use Rattle.partitioner.specs.declared.topic.Topic.{Topic}
use Rattle.timeline.specs.Timelines.{TimelineState, course_of}
use Rattle.timeline_svg.specs.Bands.{bands}
use Rattle.timeline_svg.specs.Layout.{lane_y}
use Rattle.timeline_svg.specs.Markup.{range_text, texts_below}
use Rattle.timeline_svg.specs.Places.{last_of, place_of, space_after}

-- the begin of a lane's group, and its label: the topic's name, if there are topics, and the
-- partitions
unfoldable pub lane_head : ℕ → List ℕ → ℕ → ℕ → List ℕ
lane_head lane topic first last = concat (
    codes "<g class=\"lane\" data-topic=\"" ∷ topic ∷ codes "\" data-first=\"" ∷ decimal first
    ∷ codes "\" data-last=\"" ∷ decimal last
    ∷ codes "\">\n<text class=\"label\" x=\"-8\" y=\"" ∷ decimal (lane_y lane + 15)
    ∷ codes "\">" ∷ topic ∷ space_after topic ∷ range_text first last ∷ codes "</text>\n" ∷ [])

-- the lane of the partitions from one on, up to another
abbrev pub lane_shapes : List Topic → TimelineState → ℕ → ℕ → ℕ → List ℕ
lane_shapes topics t lane first last =
    lane_head lane (place_of topics first).topic (place_of topics first).number
    (place_of topics last).number
    ++ bands t.names lane (length t.columns) (course_of t.lanes first)
    ++ codes "</g>\n"

-- a lane by its number
abbrev pub lane_at : List Topic → TimelineState → List ℕ → ℕ → List ℕ
lane_at topics t starts lane =
    option_map_or
    (λ first. lane_shapes topics t lane first (last_of starts (length t.lanes) lane))
    (slice_get starts lane) []

-- all lanes, by the partitions that begin one
abbrev pub lanes : List Topic → TimelineState → List ℕ → List ℕ
lanes topics t starts = texts_below (length starts) (lane_at topics t starts)
