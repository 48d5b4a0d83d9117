-- The cells of a row of a trace, besides those that name sets of partitions.
use Rattle.std.specs.Prelude.{ℕ, ◌+◌, ◌-◌, not, nat_lt, List, [], ◌∷◌, Option, Some, None, Result, Ok, Err, codes, decimal, drop, filter, length, map, if◌then◌else◌}
use Rattle.std.specs.Option.{option_map_or}
use Rattle.lane_words.specs.Refusal.{code_of}
use Rattle.lane_words.specs.declared.Refusal.{Refusal}
use Rattle.consumer.specs.Consumer.{position_of}
use Rattle.group_machine.specs.Cluster.{ClusterState, CommitTerms}
use Rattle.group_machine.specs.State.{GroupState, is_joined, members}
use Rattle.group_machine.specs.declared.group.Phase.{Phase}
use Rattle.group_machine.specs.declared.group.Phase.TheVariants as phase
use Rattle.partitioner.specs.declared.topic.Topic.{Topic}
use Rattle.report_rows.specs.ReplayRows.{appended_total, committed_total, partition_fields}
use Rattle.world.specs.declared.event.Reply.{Reply}
use Rattle.world.specs.declared.event.Reply.TheVariants as reply
use Rattle.world.specs.World.{WorldState, commit_at, consumer_of}
use Rattle.replay_steps.specs.declared.step.StepEvent.{StepEvent}
use Rattle.replay_steps.specs.declared.step.StepEvent.TheVariants as what
use Rattle.replay_steps.specs.Reasons.{reason_of}
use Rattle.replay_steps.specs.Steps.{StepTaken, name_of_member}
use Rattle.trace_report.specs.Sets.{each_after}
use Rattle.trace_report.specs.declared.cells.Details.{Details}
use Rattle.trace_report.specs.declared.texts.TheConstants.{SPACE}

-- ---- what a step is about
-- the word of a script for what happens
unfoldable pub event_word : StepEvent → List ℕ
event_word what.Append = codes "append"
event_word what.Join = codes "join"
event_word what.Keep = codes "keep"
event_word what.Return = codes "return"
event_word what.Rejoin = codes "rejoin"
event_word what.Sync = codes "sync"
event_word what.Leave = codes "leave"
event_word what.Lose = codes "lose"
event_word (what.Poll p) = codes "poll"
event_word (what.Send p) = codes "send"
event_word (what.Deliver k) = codes "deliver"
event_word (what.Unanswered k) = codes "unanswered"
event_word what.Settle = codes "settle"
event_word what.Drain = codes "drain"

-- the partition, the offsets from and to, and the commit of a step, where it has them
abbrev pub no_details : Details
no_details = record { partition = None; from = None; to = None; commit = None }

abbrev pub at_partition : ℕ → Details
at_partition p = record { partition = Some p; from = None; to = None; commit = None }

-- an accepted append: its offset, and the next
abbrev pub append_details : Option Reply → Details
append_details (Some (reply.Appended p offset)) =
    record { partition = Some p; from = Some offset; to = Some (offset + 1); commit = None }
append_details other = no_details

-- the position of a member's consumer
abbrev pub position_in : WorldState → ℕ → ℕ → ℕ
position_in w m p = option_map_or (λ c. position_of c p) (consumer_of w m) 0

-- an accepted poll: the position before it, and after it
abbrev pub poll_details : WorldState → ℕ → ℕ → Option Reply → Details
poll_details w m p (Some (reply.Polled count)) = record {
  partition = Some p;
  from = Some (position_in w m p - count);
  to = Some (position_in w m p);
  commit = None;
}
poll_details w m p other = at_partition p

-- a commit of the mail, by its number, if there is one
abbrev pub commit_details : WorldState → ℕ → Details
commit_details w k =
    option_map_or
    (λ (c : CommitTerms). record {
      partition = Some c.partition;
      from = Some c.from;
      to = Some (c.from + length c.ids);
      commit = Some k;
    })
    (commit_at w k)
    (record { partition = None; from = None; to = None; commit = Some k })

-- an accepted send: the commit that went into the mail
abbrev pub send_details : WorldState → ℕ → Option Reply → Details
send_details w p (Some (reply.Sent k)) = record (commit_details w k) { partition = Some p }
send_details w p other = at_partition p

abbrev pub details_in : WorldState → ℕ → Option Reply → StepEvent → Details
details_in w m replied what.Append = append_details replied
details_in w m replied (what.Poll p) = poll_details w m p replied
details_in w m replied (what.Send p) = send_details w p replied
details_in w m replied (what.Deliver k) = commit_details w k
details_in w m replied (what.Unanswered k) = commit_details w k
details_in w m replied event = no_details

unfoldable pub details_of : StepTaken → Details
details_of step = details_in step.after step.member step.reply step.event

-- ---- cells
abbrev pub number_cell : Option ℕ → List ℕ
number_cell None = []
number_cell (Some n) = decimal n

-- an empty cell for the partition; with topics one for the topic too
abbrev pub no_partition : List Topic → List (List ℕ)
no_partition [] = [] ∷ []
no_partition topics = [] ∷ [] ∷ []

-- the cells of a partition, which are empty if there is none, or none of this number
unfoldable pub partition_cells : List Topic → ℕ → Option ℕ → List (List ℕ)
partition_cells topics partitions None = no_partition topics
partition_cells topics partitions (Some p) =
    if nat_lt p partitions then partition_fields topics p else no_partition topics

abbrev pub code_cell : Result (Unit {0}) Refusal → List ℕ
code_cell (Ok _) = []
code_cell (Err why) = decimal (code_of why)

abbrev pub reason_cell : Result (Unit {0}) Refusal → List ℕ
reason_cell (Ok _) = []
reason_cell (Err why) = reason_of why

-- ---- the group afterwards
abbrev pub phase_word : Phase → List ℕ
phase_word phase.Empty = codes "empty"
phase_word phase.Preparing = codes "preparing"
phase_word phase.Stable = codes "stable"

-- the names of those of some members that have not joined, each after a space
abbrev pub waiting_text : WorldState → List ℕ → List ℕ
waiting_text w ms =
    each_after SPACE
    (map (name_of_member w) (filter (λ m. not (is_joined w.cluster.group m)) ms))

abbrev pub waiting_in : Phase → List ℕ → List ℕ
waiting_in phase.Preparing names = drop 1 names
waiting_in other names = []

-- for whom a group that prepares a generation waits: the present members that have not joined, in
-- order of numbers, with a space between
unfoldable pub waiting_cell : WorldState → List ℕ
waiting_cell w =
    waiting_in w.cluster.group.phase (waiting_text w (members w.cluster.group))

-- the records that are appended and not committed
abbrev pub lag : ClusterState → ℕ
lag s = appended_total s - committed_total s
