-- Names, colours and words.
use Rattle.std.specs.Prelude.{ℕ, zero, suc, ◌+◌, ◌%◌, Bool, true, false, List, [], ◌∷◌, codes, slice_get}
use Rattle.std.specs.Option.{option_map_or}
use Rattle.replay_steps.specs.Reasons.{reason_of}
use Rattle.timeline.specs.declared.parts.End.{End}
use Rattle.timeline.specs.declared.parts.End.TheVariants as end
use Rattle.timeline.specs.declared.parts.Holder.{Holder}
use Rattle.timeline.specs.declared.parts.Holder.TheVariants as holder

-- the number of a member's colour, from 1 to 8
abbrev pub colour_of : ℕ → ℕ
colour_of member = (member + 7) % 8 + 1

-- the name of a member by its number; nothing if there is none
abbrev pub name_of : List (List ℕ) → ℕ → List ℕ
name_of names zero = []
name_of names (suc i) = option_map_or (λ name. name) (slice_get names i) []

-- the member that a partition is granted to, or 0
abbrev pub member_of : Holder → ℕ
member_of holder.Nobody = 0
member_of (holder.Granted m) = m
member_of (holder.Reading m) = m

abbrev pub is_accepted : End → Bool
is_accepted end.Accepted = true
is_accepted end.AcceptedUnanswered = true
is_accepted other = false

-- the class of a commit by how its delivery ended
abbrev pub end_class : End → List ℕ
end_class end.Accepted = codes "accepted"
end_class (end.Refused why) = codes "refused"
end_class end.AcceptedUnanswered = codes "accepted unanswered"
end_class end.RefusedUnanswered = codes "refused unanswered"

-- how a delivery ended
abbrev pub end_words : End → List ℕ
end_words end.Accepted = codes "accepted"
end_words (end.Refused why) = reason_of why
end_words end.AcceptedUnanswered = codes "accepted, unanswered"
end_words end.RefusedUnanswered = codes "refused, unanswered"
