-- The picture of a timeline.
use Rattle.std.specs.Prelude.{ℕ, ◌+◌, max, List, [], ◌∷◌, ◌++◌, codes, decimal, length}
use Rattle.std.specs.List.{concat}
use Rattle.partitioner.specs.declared.topic.Topic.{Topic}
use Rattle.script.specs.Grammar.{lines_from}
use Rattle.timeline.specs.Timelines.{TimelineState}
use Rattle.timeline_svg.specs.Columns.{columns}
use Rattle.timeline_svg.specs.Figures.{figures_text}
use Rattle.timeline_svg.specs.Headings.{headings}
use Rattle.timeline_svg.specs.Lanes.{lanes}
use Rattle.timeline_svg.specs.Layout.{height, lane_y, margin, row_y, width}
use Rattle.timeline_svg.specs.Places.{lane_starts}
use Rattle.timeline_svg.specs.declared.style.TheConstants.{KEY, STYLE}

-- the parts that are always the same: what the picture and its signs mean, and its styles
unfoldable pub style_text : List ℕ
style_text = STYLE.now

unfoldable pub key_text : List ℕ
key_text = KEY.now

-- the letters of the longest name of a topic
abbrev pub longest_name : List Topic → ℕ
longest_name [] = 0
longest_name (topic ∷ topics) = max (length topic.name) (longest_name topics)

-- the begin: the size, and a title
unfoldable pub picture_open : ℕ → ℕ → ℕ → ℕ → List ℕ
picture_open wide high members partitions = concat (
    codes "<svg xmlns=\"http://www.w3.org/2000/svg\" width=\"" ∷ decimal wide
    ∷ codes "\" height=\"" ∷ decimal high
    ∷ codes "\" viewBox=\"0 0 " ∷ decimal wide ∷ codes " " ∷ decimal high
    ∷ codes "\" role=\"graphics-document document\" aria-labelledby=\"title desc\">\n"
    ∷ codes "<title id=\"title\">Who reads which partition: "
    ∷ decimal members ∷ codes " members, " ∷ decimal partitions
    ∷ codes " partitions</title>\n" ∷ [])

-- the begin of what stands over the lanes and in them
unfoldable pub lanes_open : ℕ → List ℕ
lanes_open letters =
    concat (codes "<g transform=\"translate(" ∷ decimal (margin letters) ∷ codes " 0)\">\n" ∷ [])

-- its end, and the begin of the figures
unfoldable pub figures_open : ℕ → List ℕ
figures_open lanes = concat (
    codes "<text class=\"label\" x=\"-8\" y=\"" ∷ decimal (lane_y lanes + 16)
    ∷ codes "\">generation</text>\n</g>\n<g class=\"figures\" transform=\"translate(16 "
    ∷ decimal (lane_y lanes + 56) ∷ codes ")\">\n" ∷ [])

-- the begin of what the signs mean
unfoldable pub key_open : ℕ → List ℕ
key_open lanes = concat (
    codes "<g class=\"key\" transform=\"translate(0 " ∷ decimal (row_y lanes + 72)
    ∷ codes ")\">\n" ∷ [])

-- the lanes, with the script's lines over them and what happens in them
abbrev pub lanes_text : List Topic → List ℕ → TimelineState → List ℕ → List ℕ
lanes_text topics script t starts =
    lanes_open (longest_name topics)
    ++ headings t.columns (length starts) (lines_from 1 script) ++ lanes topics t starts
    ++ columns topics t starts

-- the figures, and what the signs mean
abbrev pub below_text : List Topic → TimelineState → List ℕ → List ℕ
below_text topics t starts =
    figures_open (length starts) ++ figures_text topics t starts ++ key_open (length starts)
    ++ key_text

-- the picture of a timeline whose lanes begin with these partitions
abbrev pub picture_of_lanes : List Topic → List ℕ → TimelineState → List ℕ → List ℕ
picture_of_lanes topics script t starts =
    picture_open (width (longest_name topics) (length t.columns)) (height (length starts))
    (length t.names) (length t.lanes)
    ++ style_text ++ lanes_text topics script t starts ++ below_text topics t starts

-- the picture of a timeline of a script
unfoldable pub picture_of : List Topic → List ℕ → TimelineState → List ℕ
picture_of topics script t =
    picture_of_lanes topics script t (lane_starts topics t.lanes)
