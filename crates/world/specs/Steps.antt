-- The events of a world, each defined by steps of the cluster and of a consumer.
use Rattle.std.specs.Prelude.{◌≡◌, ◌⊎◌, ℕ, ◌+◌, List, [], ◌∷◌, ◌++◌, Option, Some, None, is_none, Result, Ok, Err, length, nat_le, nat_lt, if◌then◌else◌}
use Rattle.std.specs.Result.{result_and}
use Rattle.lane_words.specs.declared.Refusal.{Refusal}
use Rattle.lane_words.specs.declared.Refusal.TheVariants as r
use Rattle.partition_log.specs.Keys.{Keyed, of_first}
use Rattle.group_machine.specs.Cluster.{ClusterState, CommitTerms, LeaseTerms, append_answer, appended_to, cluster_commit_answer, cluster_sync_answer, committed_by, with_group}
use Rattle.group_machine.specs.State.{GroupState}
use Rattle.group_machine.specs.Steps.{join_answer, joined_by, joined_static_by, leave_answer, left_by, rejoin_answer, rejoined_by, synced_by, take_over_answer, taken_over_by}
use Rattle.consumer.specs.Consumer.{ConsumerState, answered_by, commit_of, given_up, joined_as, leased, out_of_group, poll_answer, polled, sendable_answer}
use Rattle.world.specs.declared.event.Event.{Event}
use Rattle.world.specs.declared.event.Event.TheVariants as event
use Rattle.world.specs.declared.event.Reply.{Reply}
use Rattle.world.specs.declared.event.Reply.TheVariants as reply
use Rattle.world.specs.declared.event.TheConstants.{MOST_COMMITS}
use Rattle.world.specs.World.{WorldState, commit_at, consumer_of, on_consumer, with_cluster}

-- the outcome of an event: the reply, and the world after it
pub record Outcome : Type 0 where
  pub reply : Reply
  pub after : WorldState

abbrev pub done : Reply → WorldState → Outcome
done reply after = record { reply = reply; after = after }

-- the event is refused, and nothing changes
abbrev pub refused : WorldState → Refusal → Outcome
refused w why = done (reply.Refused why) w

-- ---- events of the cluster alone
abbrev pub append_outcome : WorldState → Keyed → Result (ℕ × ℕ) Refusal → Outcome
append_outcome w keyed (Ok at) = done (reply.Appended at.0 at.1)
    (with_cluster w (appended_to w.cluster keyed))
append_outcome w keyed (Err why) = refused w why

abbrev pub append_event : WorldState → Keyed → Outcome
append_event w keyed = append_outcome w keyed (append_answer w.cluster.logs keyed)

-- the same, to a topic that may not exist
abbrev pub append_in_event : WorldState → Keyed → Outcome
append_in_event w keyed =
    if nat_lt keyed.0 (length w.cluster.logs.counts) then append_event w keyed
    else refused w (r.NoSuchTopic 0)

-- a member joins the group, and gets a consumer that is in the group
abbrev pub entry_outcome : (ℕ → Reply) → GroupState → WorldState → Result ℕ Refusal → Outcome
entry_outcome replied group w (Ok member) = done (replied member) (record {
  cluster = with_group w.cluster group;
  consumers = w.consumers ++ joined_as (out_of_group w.cluster.group.partitions) member ∷ [];
  mail = w.mail;
})
entry_outcome replied group w (Err why) = refused w why

abbrev pub joined_outcome : GroupState → WorldState → Result ℕ Refusal → Outcome
joined_outcome group w answer = entry_outcome (λ member. reply.Joined member) group w answer

abbrev pub join_event : WorldState → List ℕ → Outcome
join_event w name =
    joined_outcome (joined_by w.cluster.group name) w (join_answer w.cluster.group name)

abbrev pub join_kept_event : WorldState → List ℕ → Outcome
join_kept_event w name =
    joined_outcome (joined_static_by w.cluster.group name) w (join_answer w.cluster.group name)

-- the consumer of the member whose seat is taken over does not learn of it
abbrev pub take_over_event : WorldState → List ℕ → Outcome
take_over_event w name =
    entry_outcome (λ member. reply.TakenOver member) (taken_over_by w.cluster.group name) w
    (take_over_answer w.cluster.group name)

-- the consumer of a lost member does not learn of it
abbrev pub lose_outcome : WorldState → ℕ → Result (Unit {0}) Refusal → Outcome
lose_outcome w m (Ok _) =
    done reply.Lost (with_cluster w (with_group w.cluster (left_by w.cluster.group m)))
lose_outcome w m (Err why) = refused w why

abbrev pub lose_event : WorldState → ℕ → Outcome
lose_event w m = lose_outcome w m (leave_answer w.cluster.group m)

-- ---- requests of a member's consumer
-- the consumer drops everything, and is out of the group
abbrev pub dropped : ConsumerState → ConsumerState
dropped c = out_of_group c.partitions

-- the cluster refuses: a consumer that learns that its member is not present leaves the group, and
-- nothing else changes
abbrev pub refused_by_cluster : WorldState → ℕ → Refusal → Outcome
refused_by_cluster w m r.UnknownMember = done (reply.Refused r.UnknownMember)
    (on_consumer w m dropped)
refused_by_cluster w m why = refused w why

-- the world after an accepted step of the cluster and of a member's consumer
abbrev pub both : WorldState → ℕ → ClusterState → (ConsumerState → ConsumerState) → WorldState
both w m cluster f = on_consumer (with_cluster w cluster) m f

abbrev pub sync_outcome : WorldState → ℕ → Result LeaseTerms Refusal → Outcome
sync_outcome w m (Ok lease) = done (reply.Leased lease.generation)
    (both w m (with_group w.cluster (synced_by w.cluster.group m)) (λ c. leased c lease))
sync_outcome w m (Err why) = refused_by_cluster w m why

abbrev pub rejoin_outcome : WorldState → ℕ → Result (Unit {0}) Refusal → Outcome
rejoin_outcome w m (Ok _) = done reply.Rejoined
    (both w m (with_group w.cluster (rejoined_by w.cluster.group m)) given_up)
rejoin_outcome w m (Err why) = refused_by_cluster w m why

abbrev pub leave_outcome : WorldState → ℕ → Result (Unit {0}) Refusal → Outcome
leave_outcome w m (Ok _) = done reply.Left
    (both w m (with_group w.cluster (left_by w.cluster.group m)) dropped)
leave_outcome w m (Err why) = refused_by_cluster w m why

-- a request of a member's consumer: refused with `UnknownMember` if no member ever had this number,
-- and with `OutOfGroup` if its consumer is out
abbrev pub asked : WorldState → Option ConsumerState → (ConsumerState → Outcome) → Outcome
asked w None f = refused w r.UnknownMember
asked w (Some c) f = if is_none c.member then refused w r.OutOfGroup else f c

abbrev pub sync_event : WorldState → ℕ → Outcome
sync_event w m = asked w (consumer_of w m) (λ c. sync_outcome w m (cluster_sync_answer w.cluster m))

abbrev pub rejoin_event : WorldState → ℕ → Outcome
rejoin_event w m = asked w (consumer_of w m)
    (λ c. rejoin_outcome w m (rejoin_answer w.cluster.group m c.generation c.assigned))

abbrev pub leave_event : WorldState → ℕ → Outcome
leave_event w m =
    asked w (consumer_of w m) (λ c. leave_outcome w m (leave_answer w.cluster.group m))

-- ---- events of a consumer alone
abbrev pub poll_outcome : WorldState → ℕ → ℕ → ℕ → ConsumerState → Result ℕ Refusal → Outcome
poll_outcome w m p n c (Ok count) = done (reply.Polled count)
    (on_consumer w m (λ x. polled x w.cluster.logs p n))
poll_outcome w m p n c (Err why) = refused w why

abbrev pub poll_by_consumer : WorldState → ℕ → ℕ → ℕ → Option ConsumerState → Outcome
poll_by_consumer w m p n None = refused w r.UnknownMember
poll_by_consumer w m p n (Some c) = poll_outcome w m p n c (poll_answer c w.cluster.logs p n)

abbrev pub poll_event : WorldState → ℕ → ℕ → ℕ → Outcome
poll_event w m p n = poll_by_consumer w m p n (consumer_of w m)

-- whether a commit can be sent: the consumer has something to send, and the mail is not full
abbrev pub mail_answer : WorldState → ConsumerState → ℕ → Result (Unit {0}) Refusal
mail_answer w c p =
    result_and (sendable_answer c p)
    (if nat_le MOST_COMMITS (length w.mail) then Err r.MailFull else Ok tt)

abbrev pub send_outcome : WorldState → ℕ → ConsumerState → Result (Unit {0}) Refusal → Outcome
send_outcome w p c (Ok _) = done (reply.Sent (length w.mail + 1))
    (record w { mail = w.mail ++ commit_of c w.cluster.logs p ∷ [] })
send_outcome w p c (Err why) = refused w why

abbrev pub send_by_consumer : WorldState → ℕ → Option ConsumerState → Outcome
send_by_consumer w p None = refused w r.UnknownMember
send_by_consumer w p (Some c) = send_outcome w p c (mail_answer w c p)

abbrev pub send_event : WorldState → ℕ → ℕ → Outcome
send_event w m p = send_by_consumer w p (consumer_of w m)

-- ---- deliveries
-- the cluster after a commit has reached it
abbrev pub given : ClusterState → CommitTerms → Result ℕ Refusal → ClusterState
given s c (Ok _) = committed_by s c
given s c (Err _) = s

abbrev pub replied : Result ℕ Refusal → Reply
replied (Ok offset) = reply.Committed offset
replied (Err why) = reply.Refused why

-- a commit reaches the cluster, and the reply reaches its member's consumer
abbrev pub delivered : WorldState → CommitTerms → Result ℕ Refusal → Outcome
delivered w c answer = done (replied answer)
    (both w c.member (given w.cluster c answer) (λ x. answered_by x c.partition answer))

-- the same, but the reply is lost
abbrev pub delivered_unanswered : WorldState → CommitTerms → Result ℕ Refusal → Outcome
delivered_unanswered w c answer = done reply.Unanswered (with_cluster w (given w.cluster c answer))

abbrev pub delivery : WorldState → (CommitTerms → Result ℕ Refusal → Outcome) → Option CommitTerms
    → Outcome
delivery w f None = refused w r.NoSuchCommit
delivery w f (Some c) = f c (cluster_commit_answer w.cluster c)

abbrev pub deliver_event : WorldState → ℕ → Outcome
deliver_event w k = delivery w (delivered w) (commit_at w k)

abbrev pub deliver_unanswered_event : WorldState → ℕ → Outcome
deliver_unanswered_event w k = delivery w (delivered_unanswered w) (commit_at w k)

-- ---- one step
-- an event that takes no memory has this outcome
abbrev pub Comes : Outcome → Reply → WorldState → Type 0
Comes outcome reply w2 = (reply ≡ outcome.reply) × (w2 ≡ outcome.after)

-- an event that takes memory has this outcome, or memory runs out and nothing changes
abbrev pub MayCome : WorldState → Outcome → Reply → WorldState → Type 0
MayCome w outcome reply w2 = Comes outcome reply w2 ⊎ Comes (refused w r.Memory) reply w2

-- an event in a world, the reply to it, and the world after it
abbrev pub Step : WorldState → Event → Reply → WorldState → Type 0
Step w (event.Append key) reply w2 = MayCome w (append_event w (of_first key.now)) reply w2
Step w (event.AppendIn topic key) reply w2 =
    MayCome w (append_in_event w (topic, key.now)) reply w2
Step w (event.Join name) reply w2 = MayCome w (join_event w name.now) reply w2
Step w (event.JoinKept name) reply w2 = MayCome w (join_kept_event w name.now) reply w2
Step w (event.TakeOver name) reply w2 = MayCome w (take_over_event w name.now) reply w2
Step w (event.Sync m) reply w2 = MayCome w (sync_event w m) reply w2
Step w (event.Rejoin m) reply w2 = MayCome w (rejoin_event w m) reply w2
Step w (event.Leave m) reply w2 = MayCome w (leave_event w m) reply w2
Step w (event.Lose m) reply w2 = MayCome w (lose_event w m) reply w2
Step w (event.Poll m p n) reply w2 = Comes (poll_event w m p n) reply w2
Step w (event.Send m p) reply w2 = MayCome w (send_event w m p) reply w2
Step w (event.Deliver k) reply w2 = Comes (deliver_event w k) reply w2
Step w (event.DeliverUnanswered k) reply w2 = Comes (deliver_unanswered_event w k) reply w2

-- ---- refusals that never occur in a world
-- not a refusal of a rejoin that a consumer which follows its leases never gets
abbrev pub IsNoRejoinFault : Result (Unit {0}) Refusal → Type 0
IsNoRejoinFault (Err r.SyncFirst) = ⊥
IsNoRejoinFault (Err r.ClaimDiffers) = ⊥
IsNoRejoinFault answer = Unit {0}

-- not a refusal of a commit that a sent commit never gets
abbrev pub IsNoCommitFault : Result ℕ Refusal → Type 0
IsNoCommitFault (Err r.PastEnd) = ⊥
IsNoCommitFault (Err r.WrongRecords) = ⊥
IsNoCommitFault (Err r.EmptyCommit) = ⊥
IsNoCommitFault answer = Unit {0}

-- the cluster never refuses a rejoin with `SyncFirst` or `ClaimDiffers`, nor a delivered commit
-- with `PastEnd`, `WrongRecords` or `EmptyCommit`
abbrev pub NeverFaults : WorldState → Event → Type 0
NeverFaults w (event.Rejoin m) = (c : ConsumerState) → consumer_of w m ≡ Some c
    → IsNoRejoinFault (rejoin_answer w.cluster.group m c.generation c.assigned)
NeverFaults w (event.Deliver k) = (c : CommitTerms) → commit_at w k ≡ Some c
    → IsNoCommitFault (cluster_commit_answer w.cluster c)
NeverFaults w (event.DeliverUnanswered k) = (c : CommitTerms) → commit_at w k ≡ Some c
    → IsNoCommitFault (cluster_commit_answer w.cluster c)
NeverFaults w event = Unit {0}
