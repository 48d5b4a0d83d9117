-- What is marked in a column: polls, commits and refusals.
use Rattle.std.specs.Prelude.{ℕ, zero, suc, ◌+◌, ◌-◌, Option, Bool, if◌then◌else◌, List, [], ◌∷◌, ◌++◌, codes, decimal, slice_get}
use Rattle.std.specs.List.{concat}
use Rattle.std.specs.Option.{option_map_or}
use Rattle.partitioner.specs.declared.topic.Topic.{Topic}
use Rattle.replay_steps.specs.Reasons.{reason_of}
use Rattle.timeline.specs.declared.parts.End.{End}
use Rattle.timeline.specs.declared.parts.Mark.{Mark}
use Rattle.timeline.specs.declared.parts.Mark.TheVariants as mark
use Rattle.timeline.specs.declared.parts.Records.{Records}
use Rattle.timeline.specs.declared.parts.Sent.{Sent}
use Rattle.timeline.specs.Timelines.{TimelineState}
use Rattle.timeline_svg.specs.Layout.{column_x, lane_y, middle_x}
use Rattle.timeline_svg.specs.Places.{Place, lane_of, place_of}
use Rattle.timeline_svg.specs.Words.{colour_of, end_class, end_words, is_accepted, name_of}

-- the attributes that name a member, a partition and a range of its offsets
unfoldable pub records_attributes : List ℕ → List ℕ → ℕ → Records → List ℕ
records_attributes name topic number records = concat (
    codes " data-member=\"" ∷ name ∷ codes "\" data-topic=\"" ∷ topic
    ∷ codes "\" data-partition=\"" ∷ decimal number
    ∷ codes "\" data-from=\"" ∷ decimal records.from
    ∷ codes "\" data-to=\"" ∷ decimal records.to ∷ codes "\"" ∷ [])

abbrev pub records_text : List Topic → TimelineState → Records → List ℕ
records_text topics t records =
    records_attributes (name_of t.names records.member)
    (place_of topics records.partition).topic (place_of topics records.partition).number records

-- a poll: a box in the member's colour below the band, and the partition and offsets
unfoldable pub poll_shape : ℕ → ℕ → ℕ → Records → List ℕ
poll_shape lane column number records = concat (
    codes "><rect class=\"m" ∷ decimal (colour_of records.member) ∷ codes "\" x=\""
    ∷ decimal (column_x column + 11) ∷ codes "\" y=\"" ∷ decimal (lane_y lane + 20)
    ∷ codes "\" width=\"6\" height=\"8\"/><text class=\"offsets\" x=\""
    ∷ decimal (middle_x column) ∷ codes "\" y=\"" ∷ decimal (lane_y lane + 38) ∷ codes "\">"
    ∷ decimal number ∷ codes ":" ∷ decimal records.from ∷ codes "-" ∷ decimal records.to
    ∷ codes "</text></g>" ∷ [])

unfoldable pub poll_open : List ℕ
poll_open = codes "<g class=\"poll\""

abbrev pub poll_text : List Topic → TimelineState → List ℕ → ℕ → Records → List ℕ
poll_text topics t starts column records =
    poll_open ++ records_text topics t records
    ++ poll_shape (lane_of starts records.partition) column
    (place_of topics records.partition).number records

-- a sent commit: a dot in the member's colour
unfoldable pub send_shape : ℕ → ℕ → ℕ → List ℕ
send_shape lane commit column = concat (
    codes " data-commit=\"" ∷ decimal commit ∷ codes "\" cx=\"" ∷ decimal (middle_x column)
    ∷ codes "\" cy=\"" ∷ decimal (lane_y lane + 47) ∷ codes "\" r=\"4\"/>" ∷ [])

unfoldable pub send_class : ℕ → List ℕ
send_class member =
    concat (codes "<circle class=\"send m" ∷ decimal (colour_of member) ∷ codes "\"" ∷ [])

abbrev pub send_text : List Topic → TimelineState → List ℕ → ℕ → Sent → List ℕ
send_text topics t starts commit sent =
    send_class sent.records.member ++ records_text topics t sent.records
    ++ send_shape (lane_of starts sent.records.partition) commit sent.column

-- a delivery: an arc from the column of the commit's sending to that of the delivery
unfoldable pub arc_shape : List ℕ → ℕ → ℕ → ℕ → ℕ → End → List ℕ
arc_shape name lane column commit sent ended = concat (
    codes "<g class=\"commit " ∷ end_class ended ∷ codes "\" data-commit=\"" ∷ decimal commit
    ∷ codes "\" data-sent=\"" ∷ decimal sent
    ∷ codes "\" data-reason=\"" ∷ end_words ended ∷ codes "\"><title>commit " ∷ decimal commit
    ∷ codes " of " ∷ name ∷ codes ": " ∷ end_words ended
    ∷ codes "</title><path class=\"arc\" d=\"M" ∷ decimal (middle_x sent)
    ∷ codes " " ∷ decimal (lane_y lane + 47)
    ∷ codes "c0 12 " ∷ decimal (column_x (column - sent))
    ∷ codes " 12 " ∷ decimal (column_x (column - sent)) ∷ codes " 0\"/>" ∷ [])

-- the end of an accepted commit: a tick
unfoldable pub tick_shape : ℕ → ℕ → List ℕ
tick_shape lane column = concat (
    codes "<path class=\"tick\" d=\"M" ∷ decimal (column_x column + 9)
    ∷ codes " " ∷ decimal (lane_y lane + 47) ∷ codes "l4 5 7 -11\"/></g>" ∷ [])

-- the end of a refused commit: a cross, and why
unfoldable pub cross_shape : ℕ → ℕ → List ℕ → List ℕ
cross_shape lane column words = concat (
    codes "<path class=\"cross\" d=\"M" ∷ decimal (column_x column + 10)
    ∷ codes " " ∷ decimal (lane_y lane + 43)
    ∷ codes "l8 8m0 -8l-8 8\"/><text class=\"reason\" x=\"" ∷ decimal (middle_x column)
    ∷ codes "\" y=\"" ∷ decimal (lane_y lane + 67) ∷ codes "\">" ∷ words
    ∷ codes "</text></g>" ∷ [])

abbrev pub end_shape : ℕ → ℕ → End → List ℕ
end_shape lane column ended =
    if is_accepted ended then tick_shape lane column
    else cross_shape lane column (end_words ended)

abbrev pub delivery_text : TimelineState → List ℕ → ℕ → ℕ → End → Sent → List ℕ
delivery_text t starts column commit ended sent =
    arc_shape (name_of t.names sent.records.member) (lane_of starts sent.records.partition)
    column commit sent.column ended
    ++ end_shape (lane_of starts sent.records.partition) column ended

-- an event or a line that was refused: a cross above the lanes, and why
unfoldable pub refusal_shape : ℕ → List ℕ → List ℕ
refusal_shape column words = concat (
    codes "<g class=\"refusal\" data-reason=\"" ∷ words
    ∷ codes "\"><path class=\"cross\" d=\"M" ∷ decimal (column_x column + 10)
    ∷ codes " 155l8 8m0 -8l-8 8\"/><text transform=\"translate(" ∷ decimal (column_x column + 22)
    ∷ codes " 148) rotate(-45)\">" ∷ words ∷ codes "</text></g>" ∷ [])

-- a commit by its number
abbrev pub sent_of : List Sent → ℕ → Option Sent
sent_of commits commit = slice_get commits (commit - 1)

unfoldable pub mark_text : List Topic → TimelineState → List ℕ → ℕ → Mark → List ℕ
mark_text topics t starts column mark.Empty = []
mark_text topics t starts column (mark.Poll records) = poll_text topics t starts column records
mark_text topics t starts column (mark.Send commit) =
    option_map_or (send_text topics t starts commit) (sent_of t.commits commit) []
mark_text topics t starts column (mark.Delivery commit ended) =
    option_map_or (delivery_text t starts column commit ended) (sent_of t.commits commit) []
mark_text topics t starts column (mark.Refused why) = refusal_shape column (reason_of why)
