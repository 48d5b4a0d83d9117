-- The columns: what begins or happens in each.
use Rattle.std.specs.Prelude.{ℕ, ◌+◌, List, [], ◌∷◌, ◌++◌, Option, Some, None, codes, decimal, length, slice_get}
use Rattle.std.specs.List.{concat}
use Rattle.std.specs.Option.{option_map_or}
use Rattle.partitioner.specs.declared.topic.Topic.{Topic}
use Rattle.timeline.specs.declared.parts.Column.{Column}
use Rattle.timeline.specs.Timelines.{TimelineState}
use Rattle.timeline_svg.specs.Layout.{column_x, lane_y}
use Rattle.timeline_svg.specs.Marks.{mark_text}
use Rattle.timeline_svg.specs.Markup.{texts_below}

-- the begin of a column's group
unfoldable pub column_open : ℕ → ℕ → ℕ → List ℕ
column_open i line step = concat (
    codes "<g class=\"column\" data-column=\"" ∷ decimal i ∷ codes "\" data-line=\"" ∷ decimal line
    ∷ codes "\" data-step=\"" ∷ decimal step ∷ codes "\">" ∷ [])

-- a new generation: a dashed line through all lanes, and its number below
unfoldable pub generation_line : ℕ → ℕ → ℕ → List ℕ
generation_line lanes i generation = concat (
    codes "<path class=\"generation\" d=\"M" ∷ decimal (column_x i)
    ∷ codes " 152V" ∷ decimal (lane_y lanes)
    ∷ codes "\"/><text class=\"offsets\" x=\"" ∷ decimal (column_x i)
    ∷ codes "\" y=\"" ∷ decimal (lane_y lanes + 16) ∷ codes "\">" ∷ decimal generation
    ∷ codes "</text>" ∷ [])

abbrev pub generation_text : ℕ → ℕ → Option ℕ → List ℕ
generation_text lanes i None = []
generation_text lanes i (Some generation) = generation_line lanes i generation

abbrev pub column_shapes : List Topic → TimelineState → List ℕ → ℕ → Column → List ℕ
column_shapes topics t starts i c =
    column_open i c.line c.step ++ generation_text (length starts) i c.generation
    ++ mark_text topics t starts i c.mark
    ++ codes "</g>\n"

-- a column by its number
abbrev pub column_at : List Topic → TimelineState → List ℕ → ℕ → List ℕ
column_at topics t starts i =
    option_map_or (column_shapes topics t starts i) (slice_get t.columns i) []

abbrev pub columns : List Topic → TimelineState → List ℕ → List ℕ
columns topics t starts = texts_below (length t.columns) (column_at topics t starts)
