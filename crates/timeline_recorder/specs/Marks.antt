-- What a step marks in its column.
use Rattle.std.specs.Prelude.{ℕ, ◌-◌, nat_lt, Bool, true, false, List, [], ◌∷◌, Option, Some, None, is_some, Result, Ok, Err, if◌then◌else◌}
use Rattle.std.specs.Option.{option_map_or}
use Rattle.lane_words.specs.declared.Refusal.{Refusal}
use Rattle.consumer.specs.Consumer.{base_of, position_of}
use Rattle.partitioner.specs.Name.{is_name}
use Rattle.replay_steps.specs.Steps.{StepTaken}
use Rattle.replay_steps.specs.declared.step.StepEvent.{StepEvent}
use Rattle.replay_steps.specs.declared.step.StepEvent.TheVariants as what
use Rattle.report_rows.specs.ReplayRows.{committed_total}
use Rattle.timeline.specs.declared.parts.End.{End}
use Rattle.timeline.specs.declared.parts.End.TheVariants as end
use Rattle.timeline.specs.declared.parts.Mark.{Mark}
use Rattle.timeline.specs.declared.parts.Mark.TheVariants as mark
use Rattle.timeline.specs.declared.parts.Records.{Records}
use Rattle.timeline.specs.declared.parts.Sent.{Sent}
use Rattle.world.specs.declared.event.Reply.{Reply}
use Rattle.world.specs.declared.event.Reply.TheVariants as reply
use Rattle.world.specs.World.{WorldState, commit_at, consumer_of}

-- what a member's consumer knows of a partition: its base, and its position
abbrev pub base_in : WorldState → ℕ → ℕ → ℕ
base_in w m p = option_map_or (λ c. base_of c p) (consumer_of w m) 0

abbrev pub position_in : WorldState → ℕ → ℕ → ℕ
position_in w m p = option_map_or (λ c. position_of c p) (consumer_of w m) 0

-- the last n records before the position, which were read just now
abbrev pub records_read : WorldState → ℕ → ℕ → ℕ → Records
records_read w m p n = record {
  member = m;
  partition = p;
  from = position_in w m p - n;
  to = position_in w m p;
}

-- all that is pending of a partition, of which a commit was sent just now
abbrev pub records_sent : WorldState → ℕ → ℕ → Records
records_sent w m p = record {
  member = m;
  partition = p;
  from = base_in w m p;
  to = position_in w m p;
}

-- a refusal; nothing of what was done
abbrev pub refusal_mark : Result (Unit {0}) Refusal → Mark
refusal_mark (Ok _) = mark.Empty
refusal_mark (Err why) = mark.Refused why

abbrev pub poll_mark : StepTaken → ℕ → Option Reply → Mark
poll_mark step p (Some (reply.Polled n)) = mark.Poll (records_read step.after step.member p n)
poll_mark step p other = refusal_mark step.answer

abbrev pub send_mark : StepTaken → Option Reply → Mark
send_mark step (Some (reply.Sent k)) = mark.Send k
send_mark step other = refusal_mark step.answer

-- how an answered delivery ended
abbrev pub end_of : Result (Unit {0}) Refusal → End
end_of (Ok _) = end.Accepted
end_of (Err why) = end.Refused why

-- how a delivery whose reply was lost ended: it was accepted if more records are counted than
-- before
abbrev pub lost_end : ℕ → ℕ → End
lost_end before now =
    if nat_lt before now then end.AcceptedUnanswered else end.RefusedUnanswered

-- there is a commit of this number
abbrev pub is_sent : WorldState → ℕ → Bool
is_sent w k = is_some (commit_at w k)

abbrev pub delivery_mark : StepTaken → ℕ → End → Mark
delivery_mark step k ended =
    if is_sent step.after k then mark.Delivery k ended else refusal_mark step.answer

-- what a step marks; so many records were counted before it
abbrev pub mark_by : ℕ → StepTaken → StepEvent → Mark
mark_by counted step (what.Poll p) = poll_mark step p step.reply
mark_by counted step (what.Send p) = send_mark step step.reply
mark_by counted step (what.Deliver k) = delivery_mark step k (end_of step.answer)
mark_by counted step (what.Unanswered k) =
    delivery_mark step k (lost_end counted (committed_total step.after.cluster))
mark_by counted step other = refusal_mark step.answer

unfoldable pub mark_of : ℕ → StepTaken → Mark
mark_of counted step = mark_by counted step step.event

-- the commit that a step sent, in a column
abbrev pub sent_by : ℕ → StepTaken → StepEvent → Option Reply → List Sent
sent_by column step (what.Send p) (Some (reply.Sent k)) =
    record { column = column; records = records_sent step.after step.member p } ∷ []
sent_by column step other reply = []

unfoldable pub sent_in : ℕ → StepTaken → List Sent
sent_in column step = sent_by column step step.event step.reply

-- the name of the member that joined in a step
abbrev pub name_if : List ℕ → List (List ℕ)
name_if name = if is_name name then name ∷ [] else []

abbrev pub joined_by : List ℕ → Option Reply → List (List ℕ)
joined_by name (Some (reply.Joined m)) = name_if name
joined_by name (Some (reply.TakenOver m)) = name_if name
joined_by name other = []

-- a delivery may change how many records are counted; other steps do not
abbrev pub counted_by : ℕ → StepTaken → StepEvent → ℕ
counted_by counted step (what.Deliver k) = committed_total step.after.cluster
counted_by counted step (what.Unanswered k) = committed_total step.after.cluster
counted_by counted step other = counted
