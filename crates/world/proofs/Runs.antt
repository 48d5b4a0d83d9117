-- Runs of events: one more step, and what they append.
use Rattle.std.proofs.Common.{◌≡◌, ◌∙◌, ◌+◌, ◌<◌, ℕ, List, [], ◌∷◌, ◌++◌, Option, Some, None, Result, Ok, Err, length, take, get_or, append_assoc, refl, sym, ap, subst, inl, inr}
use Rattle.std.proofs.lemmas.List.{append-nil, take_more}
use Rattle.lane_words.specs.declared.Refusal.{Refusal}
use Rattle.lane_words.specs.declared.Refusal.TheVariants as r
use Rattle.std.specs.Prelude.{nat_lt, if◌then◌else◌}
use Rattle.std.proofs.Common.{Bool, true, false}
use Rattle.partition_log.specs.Keys.{Keyed, of_first}
use Rattle.partition_log.specs.Logs.{IsOfTopic}
use Rattle.partition_log.proofs.Stored.{first-topic}
use Rattle.partition_log.proofs.History.{history}
use Rattle.group_machine.specs.Cluster.{AreLogsOf, ClusterState, CommitTerms, LeaseTerms, append_answer, cluster_commit_answer, cluster_sync_answer}
use Rattle.group_machine.specs.State.{GroupState}
use Rattle.group_machine.specs.Steps.{join_answer, joined_by, joined_static_by, leave_answer, rejoin_answer, take_over_answer, taken_over_by}
use Rattle.consumer.specs.Consumer.{ConsumerState, poll_answer}
use Rattle.world.specs.declared.event.Event.{Event}
use Rattle.world.specs.declared.event.Event.TheVariants as event
use Rattle.world.specs.declared.event.Reply.{Reply}
use Rattle.world.specs.declared.event.Reply.TheVariants as reply
use Rattle.world.specs.World.{WorldState, commit_at, consumer_of, on_consumer, with_cluster}
use Rattle.world.specs.Steps.{Comes, MayCome, Outcome, Step, append_event, append_in_event, append_outcome, asked, deliver_event, deliver_unanswered_event, delivered, delivered_unanswered, delivery, dropped, entry_outcome, given, join_event, join_kept_event, leave_event, leave_outcome, lose_event, lose_outcome, mail_answer, poll_event, poll_by_consumer, poll_outcome, refused, refused_by_cluster, rejoin_event, rejoin_outcome, send_event, send_by_consumer, send_outcome, sync_event, sync_outcome, take_over_event}
use Rattle.world.specs.Runs.{AppendsRecords, Run, appended_by, appended_in, if_appended}
use Rattle.world.specs.Valid.{IsValidWorld}
use Rattle.world.proofs.Events.{of_topic}
use Rattle.world.proofs.Stays.{on_cluster}

-- ---- events that append nothing leave the logs
abbrev PreservesLogs : WorldState → Outcome → Type 0
PreservesLogs w o = o.after.cluster.logs ≡ w.cluster.logs

changed_logs : (w : WorldState) (m : ℕ) (f : ConsumerState → ConsumerState) → (on_consumer w m f).cluster.logs ≡ w.cluster.logs
changed_logs w m f = ap (λ (s : ClusterState). s.logs) (on_cluster w m f (consumer_of w m))

entry_logs : (replied : ℕ → Reply) (group : GroupState) (w : WorldState) (a : Result ℕ Refusal) → PreservesLogs w (entry_outcome replied group w a)
entry_logs replied group w (Ok m) = refl
entry_logs replied group w (Err why) = refl

lose_logs : (w : WorldState) (m : ℕ) (a : Result (Unit {0}) Refusal) → PreservesLogs w (lose_outcome w m a)
lose_logs w m (Ok u) = refl
lose_logs w m (Err why) = refl

refused_logs : (w : WorldState) (m : ℕ) (why : Refusal) → PreservesLogs w (refused_by_cluster w m why)
refused_logs w m r.UnknownMember = changed_logs w m dropped
refused_logs w m why = refl

sync_logs : (w : WorldState) (m : ℕ) (a : Result LeaseTerms Refusal) → PreservesLogs w (sync_outcome w m a)
sync_logs w m (Ok lease) = changed_logs _ m _
sync_logs w m (Err why) = refused_logs w m why

rejoin_logs : (w : WorldState) (m : ℕ) (a : Result (Unit {0}) Refusal) → PreservesLogs w (rejoin_outcome w m a)
rejoin_logs w m (Ok u) = changed_logs _ m _
rejoin_logs w m (Err why) = refused_logs w m why

leave_logs : (w : WorldState) (m : ℕ) (a : Result (Unit {0}) Refusal) → PreservesLogs w (leave_outcome w m a)
leave_logs w m (Ok u) = changed_logs _ m _
leave_logs w m (Err why) = refused_logs w m why

asked_logs : (w : WorldState) (f : ConsumerState → Outcome) → ((c : ConsumerState) → PreservesLogs w (f c)) → (o : Option ConsumerState) → PreservesLogs w (asked w o f)
asked_logs w f each None = refl
asked_logs w f each (Some c) = go c.member
  where
    go : (m : Option ℕ) → (let o : Outcome = asked w (Some (record c { member = m })) (λ x. f c) in o).after.cluster.logs ≡ w.cluster.logs
    go None = refl
    go (Some n) = each c

poll_logs : (w : WorldState) (m p n : ℕ) (o : Option ConsumerState) → PreservesLogs w (poll_by_consumer w m p n o)
poll_logs w m p n None = refl
poll_logs w m p n (Some c) = go (poll_answer c w.cluster.logs p n)
  where
    go : (a : Result ℕ Refusal) → PreservesLogs w (poll_outcome w m p n c a)
    go (Ok count) = changed_logs w m _
    go (Err why) = refl

send_logs : (w : WorldState) (p : ℕ) (o : Option ConsumerState) → PreservesLogs w (send_by_consumer w p o)
send_logs w p None = refl
send_logs w p (Some c) = go (mail_answer w c p)
  where
    go : (a : Result (Unit {0}) Refusal) → PreservesLogs w (send_outcome w p c a)
    go (Ok u) = refl
    go (Err why) = refl

given_logs : (s : ClusterState) (c : CommitTerms) (a : Result ℕ Refusal) → (given s c a).logs ≡ s.logs
given_logs s c (Ok end) = refl
given_logs s c (Err why) = refl

delivery_logs : (w : WorldState) (f : CommitTerms → Result ℕ Refusal → Outcome) → ((c : CommitTerms) (a : Result ℕ Refusal) → PreservesLogs w (f c a)) → (o : Option CommitTerms) → PreservesLogs w (delivery w f o)
delivery_logs w f each None = refl
delivery_logs w f each (Some c) = each c (cluster_commit_answer w.cluster c)

delivered_logs : (w : WorldState) (c : CommitTerms) (a : Result ℕ Refusal) → PreservesLogs w (delivered w c a)
delivered_logs w c a = changed_logs (with_cluster w (given w.cluster c a)) c.member _ ∙ given_logs w.cluster c a

unanswered_logs : (w : WorldState) (c : CommitTerms) (a : Result ℕ Refusal) → PreservesLogs w (delivered_unanswered w c a)
unanswered_logs w c a = given_logs w.cluster c a

-- ---- what an event appends
pub nothing_more : (w w2 : WorldState) → w2.cluster.logs ≡ w.cluster.logs → AppendsRecords [] w w2
nothing_more w w2 same appended h = rw append-nil (subst (AreLogsOf appended) (sym same) h)

came_same : (w : WorldState) (o : Outcome) (replied : Reply) (w2 : WorldState) → Comes o replied w2 → PreservesLogs w o → AppendsRecords [] w w2
came_same w o replied w2 comes same = nothing_more w w2 (ap (λ (x : WorldState). x.cluster.logs) comes.1 ∙ same)

may_come_same : (w : WorldState) (o : Outcome) (replied : Reply) (w2 : WorldState) → MayCome w o replied w2 → PreservesLogs w o → AppendsRecords [] w w2
may_come_same w o replied w2 (inl comes) same = came_same w o replied w2 comes same
may_come_same w o replied w2 (inr comes) same = nothing_more w w2 (ap (λ (x : WorldState). x.cluster.logs) comes.1)

refused_key : (w : WorldState) (keyed : Keyed) (replied : Reply) (why : Refusal) (w2 : WorldState) → replied ≡ reply.Refused why → w2 ≡ w → AppendsRecords (if_appended keyed replied) w w2
refused_key w keyed replied why w2 is same =
    subst (λ t. AppendsRecords (if_appended keyed t) w w2) (sym is) (nothing_more w w2 (ap (λ (x : WorldState). x.cluster.logs) same))

came_history : (w : WorldState) (keyed : Keyed) (replied : Reply) (w2 : WorldState) → IsValidWorld w → IsOfTopic w.cluster.logs keyed → Comes (append_event w keyed) replied w2 → AppendsRecords (if_appended keyed replied) w w2
came_history w keyed replied w2 v topic comes = go (append_answer w.cluster.logs keyed) comes
  where
    go : (a : Result (ℕ × ℕ) Refusal) → Comes (append_outcome w keyed a) replied w2 → AppendsRecords (if_appended keyed replied) w w2
    go (Err why) c = refused_key w keyed replied why w2 c.0 c.1
    go (Ok at) c =
        subst (λ t. AppendsRecords (if_appended keyed t) w w2) (sym c.0)
        (subst (λ x. AppendsRecords (keyed ∷ []) w x) (sym c.1)
        (λ appended h. history w.cluster.logs keyed appended v.cluster.logs h topic))

append_history : (w : WorldState) (keyed : Keyed) (replied : Reply) (w2 : WorldState) → IsValidWorld w → IsOfTopic w.cluster.logs keyed → MayCome w (append_event w keyed) replied w2 → AppendsRecords (if_appended keyed replied) w w2
append_history w keyed replied w2 v topic (inr comes) = refused_key w keyed replied r.Memory w2 comes.0 comes.1
append_history w keyed replied w2 v topic (inl comes) = came_history w keyed replied w2 v topic comes

append_in_history : (w : WorldState) (keyed : Keyed) (replied : Reply) (w2 : WorldState) → IsValidWorld w → MayCome w (append_in_event w keyed) replied w2 → AppendsRecords (if_appended keyed replied) w w2
append_in_history w keyed replied w2 v (inr comes) = refused_key w keyed replied r.Memory w2 comes.0 comes.1
append_in_history w keyed replied w2 v (inl comes) = go (nat_lt keyed.0 (length w.cluster.logs.counts)) refl comes
  where
    go : (b : Bool) → nat_lt keyed.0 (length w.cluster.logs.counts) ≡ b → (let o : Outcome = if b then append_event w keyed else refused w (r.NoSuchTopic 0) in Comes o replied w2) → AppendsRecords (if_appended keyed replied) w w2
    go true is c = came_history w keyed replied w2 v (of_topic keyed.0 (length w.cluster.logs.counts) is) c
    go false is c = refused_key w keyed replied (r.NoSuchTopic 0) w2 c.0 c.1

pub history_after : (w : WorldState) (e : Event) (replied : Reply) (w2 : WorldState) → IsValidWorld w → Step w e replied w2 → AppendsRecords (appended_by e replied) w w2
history_after w (event.Append key) replied w2 v step = append_history w (of_first key.now) replied w2 v (first-topic w.cluster.logs key.now v.cluster.logs) step
history_after w (event.AppendIn topic key) replied w2 v step = append_in_history w (topic, key.now) replied w2 v step
history_after w (event.Join name) replied w2 v step =
    may_come_same w (join_event w name.now) replied w2 step (entry_logs (λ m. reply.Joined m) (joined_by w.cluster.group name.now) w (join_answer w.cluster.group name.now))
history_after w (event.JoinKept name) replied w2 v step =
    may_come_same w (join_kept_event w name.now) replied w2 step (entry_logs (λ m. reply.Joined m) (joined_static_by w.cluster.group name.now) w (join_answer w.cluster.group name.now))
history_after w (event.TakeOver name) replied w2 v step =
    may_come_same w (take_over_event w name.now) replied w2 step (entry_logs (λ m. reply.TakenOver m) (taken_over_by w.cluster.group name.now) w (take_over_answer w.cluster.group name.now))
history_after w (event.Sync m) replied w2 v step = may_come_same w (sync_event w m) replied w2 step (asked_logs w _ (λ c. sync_logs w m (cluster_sync_answer w.cluster m)) (consumer_of w m))
history_after w (event.Rejoin m) replied w2 v step =
    may_come_same w (rejoin_event w m) replied w2 step (asked_logs w _ (λ c. rejoin_logs w m (rejoin_answer w.cluster.group m c.generation c.assigned)) (consumer_of w m))
history_after w (event.Leave m) replied w2 v step = may_come_same w (leave_event w m) replied w2 step (asked_logs w _ (λ c. leave_logs w m (leave_answer w.cluster.group m)) (consumer_of w m))
history_after w (event.Lose m) replied w2 v step = may_come_same w (lose_event w m) replied w2 step (lose_logs w m (leave_answer w.cluster.group m))
history_after w (event.Poll m p n) replied w2 v step = came_same w (poll_event w m p n) replied w2 step (poll_logs w m p n (consumer_of w m))
history_after w (event.Send m p) replied w2 v step = may_come_same w (send_event w m p) replied w2 step (send_logs w p (consumer_of w m))
history_after w (event.Deliver k) replied w2 v step = came_same w (deliver_event w k) replied w2 step (delivery_logs w (delivered w) (delivered_logs w) (commit_at w k))
history_after w (event.DeliverUnanswered k) replied w2 v step =
    came_same w (deliver_unanswered_event w k) replied w2 step (delivery_logs w (delivered_unanswered w) (unanswered_logs w) (commit_at w k))

-- ---- one more step
pub run_push : (events : List Event) (replies : List Reply) (w w2 w3 : WorldState) (e : Event) (replied : Reply) → Run w events replies w2 → Step w2 e replied w3 → Run w (events ++ e ∷ []) (replies ++ replied ∷ []) w3
run_push [] [] w w2 w3 e replied run step = (w3, subst (λ x. Step x e replied w3) run step, refl)
run_push [] (s ∷ replies) w w2 w3 e replied run step = absurd run
run_push (d ∷ events) [] w w2 w3 e replied run step = absurd run
run_push (d ∷ events) (s ∷ replies) w w2 w3 e replied run step = (run.0, run.1, run_push events replies run.0 w2 w3 e replied run.2 step)

pub one_step_more : (events : List Event) (replies all : List Reply) (w w2 w3 : WorldState) (i : ℕ) (d e : Event) (replied : Reply) → Run w (take i events) replies w2 → Step w2 e replied w3 → e ≡ get_or events i d → i < length events
    → all ≡ replies ++ replied ∷ [] → Run w (take (i + 1) events) all w3
one_step_more events replies all w w2 w3 i d e replied run step at lt is =
    rw (is, take_more events i d lt) (subst (λ x. Run w (take i events ++ x ∷ []) (replies ++ replied ∷ []) w3) at (run_push (take i events) replies w w2 w3 e replied run step))

appended_push : (events : List Event) (replies : List Reply) (w w2 : WorldState) (e : Event) (replied : Reply) → Run w events replies w2 → appended_in (events ++ e ∷ []) (replies ++ replied ∷ []) ≡ appended_in events replies ++ appended_by e replied
appended_push [] [] w w2 e replied run = append-nil (appended_by e replied)
appended_push [] (s ∷ replies) w w2 e replied run = absurd run
appended_push (d ∷ events) [] w w2 e replied run = absurd run
appended_push (d ∷ events) (s ∷ replies) w w2 e replied run =
    ap (λ ks. appended_by d s ++ ks) (appended_push events replies run.0 w2 e replied run.2) ∙ sym (append_assoc (appended_by d s) (appended_in events replies) (appended_by e replied))

pub appends_both : (a b : List Keyed) (w w2 w3 : WorldState) → AppendsRecords a w w2 → AppendsRecords b w2 w3 → AppendsRecords (a ++ b) w w3
appends_both a b w w2 w3 first second appended h = subst (λ ks. AreLogsOf ks w3.cluster.logs) (append_assoc appended a b) (second (appended ++ a) (first appended h))

pub history_more : (events : List Event) (replies all : List Reply) (w w2 w3 : WorldState) (i : ℕ) (d e : Event) (replied : Reply) → Run w (take i events) replies w2 → AppendsRecords (appended_in (take i events) replies) w w2
    → AppendsRecords (appended_by e replied) w2 w3 → e ≡ get_or events i d → i < length events → all ≡ replies ++ replied ∷ [] → AppendsRecords (appended_in (take (i + 1) events) all) w w3
history_more events replies all w w2 w3 i d e replied run before now at lt is =
    let grown : appended_in (take (i + 1) events) all ≡ appended_in (take i events) replies ++ appended_by e replied =
    ap (appended_in (take (i + 1) events)) is ∙ ap (λ es. appended_in es (replies ++ replied ∷ [])) (take_more events i d lt ∙ ap (λ x. take i events ++ x ∷ []) (sym at))
    ∙ appended_push (take i events) replies w w2 e replied run in
    subst (λ ks. AppendsRecords ks w w3) (sym grown) (appends_both (appended_in (take i events) replies) (appended_by e replied) w w2 w3 before now)
