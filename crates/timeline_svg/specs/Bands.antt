-- The bands of a lane: one for each span, in the colour of its member, hatched where nobody reads.
use Rattle.std.specs.Prelude.{ℕ, zero, suc, ◌+◌, ◌-◌, ◌*◌, List, [], ◌∷◌, ◌++◌, codes, decimal, length, slice_get, take}
use Rattle.std.specs.List.{concat}
use Rattle.std.specs.Option.{option_map_or}
use Rattle.timeline.specs.declared.parts.Holder.{Holder}
use Rattle.timeline.specs.declared.parts.Holder.TheVariants as holder
use Rattle.timeline.specs.declared.parts.Span.{Span}
use Rattle.timeline_svg.specs.Layout.{column_x, lane_y}
use Rattle.timeline_svg.specs.Markup.{texts_below}
use Rattle.timeline_svg.specs.Words.{colour_of, member_of, name_of}

-- what covers the colour of a band: a hatching where nobody reads
abbrev pub cover_of : Holder → List ℕ
cover_of (holder.Reading m) = []
cover_of other = codes " unread"

abbrev pub state_words : Holder → List ℕ
state_words holder.Nobody = codes "nobody reads"
state_words (holder.Granted m) = codes "nobody reads, granted to "
state_words (holder.Reading m) = codes "read by "

-- a band between two columns, and its words for whom the mouse or a reader stops at it
unfoldable pub band_shape : List (List ℕ) → ℕ → ℕ → ℕ → Holder → List ℕ
band_shape names lane from to held = concat (
    codes "<rect class=\"span m" ∷ decimal (colour_of (member_of held)) ∷ cover_of held
    ∷ codes "\" data-from=\"" ∷ decimal from ∷ codes "\" data-to=\"" ∷ decimal to
    ∷ codes "\" data-member=\"" ∷ name_of names (member_of held)
    ∷ codes "\" x=\"" ∷ decimal (column_x from) ∷ codes "\" y=\"" ∷ decimal (lane_y lane)
    ∷ codes "\" width=\"" ∷ decimal (column_x (to - from)) ∷ codes "\" height=\"20\"><title>"
    ∷ state_words held ∷ name_of names (member_of held)
    ∷ codes "</title></rect>\n" ∷ [])

-- the front of a name that has room: four letters for each column, less one
abbrev pub front_of : List ℕ → ℕ → List ℕ
front_of name columns = take (4 * columns - 1) name

-- a name in a band, as far as it has room
unfoldable pub name_shape : List ℕ → ℕ → ℕ → ℕ → Holder → List ℕ
name_shape name lane from to held = concat (
    codes "<text class=\"name on" ∷ decimal (colour_of (member_of held)) ∷ cover_of held
    ∷ codes "\" x=\"" ∷ decimal (column_x from + 4) ∷ codes "\" y=\"" ∷ decimal (lane_y lane + 14)
    ∷ codes "\">" ∷ front_of name (to - from) ∷ codes "</text>\n" ∷ [])

-- nothing where the partition is granted to nobody
abbrev pub name_in_band : List (List ℕ) → ℕ → ℕ → ℕ → Holder → List ℕ
name_in_band names lane from to holder.Nobody = []
name_in_band names lane from to held = name_shape (name_of names (member_of held)) lane from to held

-- where a span ends: where the next one begins, and the last one at the end of the picture
abbrev pub end_of : List Span → ℕ → ℕ → ℕ
end_of spans columns i = option_map_or (λ next. next.from) (slice_get spans (i + 1)) columns

abbrev pub span_shapes : List (List ℕ) → ℕ → ℕ → Span → List ℕ
span_shapes names lane to span =
    band_shape names lane span.from to span.holder
    ++ name_in_band names lane span.from to span.holder

-- the shapes of a span by its number
abbrev pub span_at : List (List ℕ) → ℕ → ℕ → List Span → ℕ → List ℕ
span_at names lane columns spans i =
    option_map_or (span_shapes names lane (end_of spans columns i)) (slice_get spans i) []

-- the bands of a lane in a picture of so many columns
abbrev pub bands : List (List ℕ) → ℕ → ℕ → List Span → List ℕ
bands names lane columns spans = texts_below (length spans) (span_at names lane columns spans)
