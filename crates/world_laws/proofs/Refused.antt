-- A refused event leaves the cluster.
use Rattle.std.proofs.Common.{◌≡◌, ℕ, Bool, true, false, Option, Some, None, Result, Ok, Err, length, refl}
use Rattle.std.specs.Prelude.{is_none, nat_lt, if◌then◌else◌}
use Rattle.lane_words.specs.declared.Refusal.{Refusal}
use Rattle.lane_words.specs.declared.Refusal.TheVariants as r
use Rattle.partition_log.specs.Keys.{Keyed, of_first}
use Rattle.consumer.specs.Consumer.{ConsumerState, answered_by}
use Rattle.group_machine.specs.Cluster.{CommitTerms, LeaseTerms, append_answer, cluster_commit_answer, cluster_sync_answer}
use Rattle.group_machine.specs.State.{GroupState}
use Rattle.group_machine.specs.Steps.{join_answer, joined_by, joined_static_by, leave_answer, rejoin_answer, take_over_answer, taken_over_by}
use Rattle.world.specs.declared.event.Event.{Event}
use Rattle.world.specs.declared.event.Event.TheVariants as event
use Rattle.world.specs.declared.event.Reply.TheVariants as reply
use Rattle.world.specs.Courses.{outcome_of}
use Rattle.world.specs.Steps.{Outcome, append_event, append_outcome, asked, delivered, delivered_unanswered, delivery, entry_outcome, leave_outcome, lose_outcome, refused, rejoin_outcome, sync_outcome}
use Rattle.world.specs.World.{WorldState, commit_at, consumer_of}
use Rattle.world.proofs.Preserved.{poll_cluster, send_cluster}
use Rattle.world_laws.proofs.Steps.{both_cluster, refused_cluster}

-- if an outcome is a refusal, it leaves the cluster
abbrev LeavesIfRefused : WorldState → Refusal → Outcome → Type 0
LeavesIfRefused w why o = o.reply ≡ reply.Refused why → o.after.cluster ≡ w.cluster

append_kept : (w : WorldState) (why : Refusal) (keyed : Keyed) (a : Result (ℕ × ℕ) Refusal) → LeavesIfRefused w why (append_outcome w keyed a)
append_kept w why keyed (Ok at) e = absurd (cc e)
append_kept w why keyed (Err other) e = refl

append_in_kept : (w : WorldState) (why : Refusal) (keyed : Keyed) (b : Bool) → (let o : Outcome = if b then append_event w keyed else refused w (r.NoSuchTopic 0) in LeavesIfRefused w why o)
append_in_kept w why keyed true e = append_kept w why keyed (append_answer w.cluster.logs keyed) e
append_in_kept w why keyed false e = refl

joined_kept : (w : WorldState) (why : Refusal) (group : GroupState) (a : Result ℕ Refusal) → LeavesIfRefused w why (entry_outcome (λ m. reply.Joined m) group w a)
joined_kept w why group (Ok n) e = absurd (cc e)
joined_kept w why group (Err other) e = refl

taken_over_kept : (w : WorldState) (why : Refusal) (group : GroupState) (a : Result ℕ Refusal) → LeavesIfRefused w why (entry_outcome (λ m. reply.TakenOver m) group w a)
taken_over_kept w why group (Ok n) e = absurd (cc e)
taken_over_kept w why group (Err other) e = refl

asked_kept : (w : WorldState) (why : Refusal) (f : ConsumerState → Outcome) → ((c : ConsumerState) → LeavesIfRefused w why (f c)) → (o : Option ConsumerState) → LeavesIfRefused w why (asked w o f)
asked_kept w why f each None e = refl
asked_kept w why f each (Some c) e = go (is_none c.member) e
  where
    go : (b : Bool) → (let o : Outcome = if b then refused w r.OutOfGroup else f c in LeavesIfRefused w why o)
    go true e = refl
    go false e = each c e

sync_kept : (w : WorldState) (why : Refusal) (m : ℕ) (a : Result LeaseTerms Refusal) → LeavesIfRefused w why (sync_outcome w m a)
sync_kept w why m (Ok lease) e = absurd (cc e)
sync_kept w why m (Err other) e = refused_cluster w m other

rejoin_kept : (w : WorldState) (why : Refusal) (m : ℕ) (a : Result (Unit {0}) Refusal) → LeavesIfRefused w why (rejoin_outcome w m a)
rejoin_kept w why m (Ok u) e = absurd (cc e)
rejoin_kept w why m (Err other) e = refused_cluster w m other

leave_kept : (w : WorldState) (why : Refusal) (m : ℕ) (a : Result (Unit {0}) Refusal) → LeavesIfRefused w why (leave_outcome w m a)
leave_kept w why m (Ok u) e = absurd (cc e)
leave_kept w why m (Err other) e = refused_cluster w m other

lose_kept : (w : WorldState) (why : Refusal) (m : ℕ) (a : Result (Unit {0}) Refusal) → LeavesIfRefused w why (lose_outcome w m a)
lose_kept w why m (Ok u) e = absurd (cc e)
lose_kept w why m (Err other) e = refl

delivered_kept : (w : WorldState) (why : Refusal) (c : CommitTerms) (a : Result ℕ Refusal) → LeavesIfRefused w why (delivered w c a)
delivered_kept w why c (Ok end) e = absurd (cc e)
delivered_kept w why c (Err other) e = both_cluster w c.member w.cluster (λ x. answered_by x c.partition (Err other))

delivery_kept : (w : WorldState) (why : Refusal) (f : CommitTerms → Result ℕ Refusal → Outcome) → ((c : CommitTerms) (a : Result ℕ Refusal) → LeavesIfRefused w why (f c a)) → (o : Option CommitTerms) → LeavesIfRefused w why (delivery w f o)
delivery_kept w why f each None e = refl
delivery_kept w why f each (Some c) e = each c (cluster_commit_answer w.cluster c) e

pub refused_kept : (w : WorldState) (e : Event) (why : Refusal) → LeavesIfRefused w why (outcome_of w e)
refused_kept w (event.Append key) why = append_kept w why (of_first key.now) (append_answer w.cluster.logs (of_first key.now))
refused_kept w (event.AppendIn topic key) why = append_in_kept w why (topic, key.now) (nat_lt topic (length w.cluster.logs.counts))
refused_kept w (event.Join name) why = joined_kept w why (joined_by w.cluster.group name.now) (join_answer w.cluster.group name.now)
refused_kept w (event.JoinKept name) why = joined_kept w why (joined_static_by w.cluster.group name.now) (join_answer w.cluster.group name.now)
refused_kept w (event.TakeOver name) why = taken_over_kept w why (taken_over_by w.cluster.group name.now) (take_over_answer w.cluster.group name.now)
refused_kept w (event.Sync m) why = asked_kept w why (λ c. sync_outcome w m (cluster_sync_answer w.cluster m)) (λ c. sync_kept w why m (cluster_sync_answer w.cluster m)) (consumer_of w m)
refused_kept w (event.Rejoin m) why = asked_kept w why (λ c. rejoin_outcome w m (rejoin_answer w.cluster.group m c.generation c.assigned)) (λ c. rejoin_kept w why m (rejoin_answer w.cluster.group m c.generation c.assigned)) (consumer_of w m)
refused_kept w (event.Leave m) why = asked_kept w why (λ c. leave_outcome w m (leave_answer w.cluster.group m)) (λ c. leave_kept w why m (leave_answer w.cluster.group m)) (consumer_of w m)
refused_kept w (event.Lose m) why = lose_kept w why m (leave_answer w.cluster.group m)
refused_kept w (event.Poll m p n) why = λ e. poll_cluster w m p n
refused_kept w (event.Send m p) why = λ e. send_cluster w m p
refused_kept w (event.Deliver k) why = delivery_kept w why (delivered w) (delivered_kept w why) (commit_at w k)
refused_kept w (event.DeliverUnanswered k) why = delivery_kept w why (delivered_unanswered w) (λ c a e. absurd (cc e)) (commit_at w k)
