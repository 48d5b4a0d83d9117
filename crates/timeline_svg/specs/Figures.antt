-- The figures below the lanes.
use Rattle.std.specs.Prelude.{ℕ, zero, suc, ◌+◌, ◌-◌, ◌&&◌, not, Bool, true, false, List, [], ◌∷◌, ◌++◌, codes, decimal, drop, length, slice_get, if◌then◌else◌}
use Rattle.std.specs.List.{concat}
use Rattle.std.specs.Option.{option_map_or}
use Rattle.partitioner.specs.declared.topic.Topic.{Topic}
use Rattle.timeline.specs.Holders.{is_read}
use Rattle.timeline.specs.declared.parts.Column.{Column}
use Rattle.timeline.specs.declared.parts.Figures.{Figures}
use Rattle.timeline.specs.declared.parts.Span.{Span}
use Rattle.timeline.specs.Timelines.{TimelineState, course_of}
use Rattle.timeline_svg.specs.Layout.{row_y}
use Rattle.timeline_svg.specs.Markup.{range_text, texts_below}
use Rattle.timeline_svg.specs.Places.{last_of, place_of, space_after}

-- the line of a column
abbrev pub line_of : List Column → ℕ → ℕ
line_of columns i = option_map_or (λ c. c.line) (slice_get columns i) 0

-- nobody reads in a span; nobody read before it, or there was nothing before it
abbrev pub is_unread_at : List Span → ℕ → Bool
is_unread_at spans i = option_map_or (λ span. not (is_read span.holder)) (slice_get spans i) false

abbrev pub follows_unread : List Span → ℕ → Bool
follows_unread spans zero = false
follows_unread spans (suc i) = is_unread_at spans i

-- where somebody reads: the column of the first of these spans that is read
abbrev pub first_read : List Span → ℕ → ℕ
first_read [] columns = columns
first_read (span ∷ spans) columns =
    if is_read span.holder then span.from else first_read spans columns

abbrev pub is_never_unread : List Span → Bool
is_never_unread [] = true
is_never_unread (span ∷ spans) = is_read span.holder && is_never_unread spans

-- the lines of a time in which nobody reads, which begins with span i
abbrev pub unread_lines : List Column → List Span → ℕ → Span → List ℕ
unread_lines columns spans i span =
    codes " "
    ++ range_text (line_of columns span.from)
    (line_of columns (first_read (drop i spans) (length columns) - 1))

-- nothing, unless a time in which nobody reads begins with span i
abbrev pub unread_at : List Column → List Span → ℕ → List ℕ
unread_at columns spans i =
    if is_unread_at spans i && not (follows_unread spans i)
    then option_map_or (unread_lines columns spans i) (slice_get spans i) []
    else []

abbrev pub unread_text : List Column → List Span → List ℕ
unread_text columns spans =
    if is_never_unread spans then codes ": never"
    else codes ": lines" ++ texts_below (length spans) (unread_at columns spans)

unfoldable pub unread_head : ℕ → List ℕ → ℕ → ℕ → List ℕ
unread_head row topic first last = concat (
    codes "<text class=\"figure unread-lines\" data-topic=\"" ∷ topic
    ∷ codes "\" data-first=\"" ∷ decimal first ∷ codes "\" data-last=\"" ∷ decimal last
    ∷ codes "\" y=\"" ∷ decimal (row_y row) ∷ codes "\">No reader of " ∷ topic ∷ space_after topic
    ∷ range_text first last ∷ [])

-- the lines in which nobody read the partitions of a lane
abbrev pub unread_figure : List Topic → TimelineState → ℕ → ℕ → ℕ → List ℕ
unread_figure topics t row first last =
    unread_head row (place_of topics first).topic (place_of topics first).number
    (place_of topics last).number
    ++ unread_text t.columns (course_of t.lanes first)
    ++ codes "</text>\n"

abbrev pub unread_figure_at : List Topic → TimelineState → List ℕ → ℕ → List ℕ
unread_figure_at topics t starts row =
    option_map_or
    (λ first. unread_figure topics t row first (last_of starts (length t.lanes) row))
    (slice_get starts row) []

-- the sums of all, from a row on
unfoldable pub sums_text : ℕ → Figures → List ℕ
sums_text row figures = concat (
    codes "<text class=\"figure read-again\" y=\"" ∷ decimal (row_y row)
    ∷ codes "\">Records read more than once: " ∷ decimal figures.read_again
    ∷ codes "</text>\n<text class=\"figure counted\" y=\"" ∷ decimal (row_y row + 18)
    ∷ codes "\">Records counted: " ∷ decimal figures.counted ∷ codes " of "
    ∷ decimal figures.appended
    ∷ codes ", none twice</text>\n<text class=\"figure moves\" y=\"" ∷ decimal (row_y row + 36)
    ∷ codes "\">Moves: " ∷ decimal figures.moves ∷ codes "</text>\n" ∷ [])

abbrev pub figures_text : List Topic → TimelineState → List ℕ → List ℕ
figures_text topics t starts =
    texts_below (length starts) (unread_figure_at topics t starts)
    ++ sums_text (length starts) t.figures
