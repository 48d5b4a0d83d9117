-- The lines of the script, over their columns.
use Rattle.std.specs.Prelude.{ℕ, ◌+◌, ◌==◌, List, [], ◌∷◌, Option, codes, decimal, flat_map, position, take}
use Rattle.std.specs.List.{concat}
use Rattle.std.specs.Option.{option_map_or}
use Rattle.timeline.specs.declared.parts.Column.{Column}
use Rattle.timeline_svg.specs.Layout.{column_x, lane_y}
use Rattle.timeline_svg.specs.Markup.{escaped_text}
use Rattle.timeline_svg.specs.declared.headings.TheConstants.{LONGEST_HEADING}

-- the front of a line's text that is shown
abbrev pub heading_front : List ℕ → List ℕ
heading_front text = take LONGEST_HEADING text

-- A line over its first column: its number and text, slanted, and a rule down to the end of the
-- lanes
unfoldable pub heading_shape : ℕ → ℕ → ℕ → List ℕ → List ℕ
heading_shape lanes column line text = concat (
    codes "<g class=\"line\" data-line=\"" ∷ decimal line
    ∷ codes "\" data-column=\"" ∷ decimal column ∷ codes "\"><title>" ∷ escaped_text text
    ∷ codes "</title><path class=\"rule\" d=\"M" ∷ decimal (column_x column)
    ∷ codes " 152V" ∷ decimal (lane_y lanes)
    ∷ codes "\"/><text transform=\"translate(" ∷ decimal (column_x column + 8)
    ∷ codes " 148) rotate(-45)\"><tspan class=\"number\">" ∷ decimal line ∷ codes "</tspan> "
    ∷ escaped_text (heading_front text) ∷ codes "</text></g>\n" ∷ [])

-- the first column of a line, if it has one
abbrev pub column_of : List Column → ℕ → Option ℕ
column_of columns line = position (λ c. c.line == line) columns

-- a line without a column, as a comment, has no heading
abbrev pub heading_of : List Column → ℕ → ℕ × List ℕ → List ℕ
heading_of columns lanes (line, text) =
    option_map_or (λ column. heading_shape lanes column line text) (column_of columns line) []

-- the headings of these lines, which come with their numbers
abbrev pub headings : List Column → ℕ → List (ℕ × List ℕ) → List ℕ
headings columns lanes lines = flat_map (heading_of columns lanes) lines
