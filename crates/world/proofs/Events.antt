-- A world stays valid, whatever the event and the reply.
use Rattle.std.proofs.Common.{◌≡◌, ◌∙◌, ◌+◌, ◌-◌, ◌<◌, ◌≤◌, ℕ, zero, suc, Bool, true, false, List, [], ◌∷◌, ◌++◌, Option, Some, None, Result, Ok, Err, length, drop, refl, sym, ap, subst, inl, inr, arith, length-append, length-drop}
use Rattle.std.specs.Prelude.{is_none, is_some, not, nat_le, nat_lt, ◌==◌, slice_range, if◌then◌else◌}
use Rattle.std.specs.Result.{result_and}
use Rattle.std.proofs.lemmas.Bool.{cases_lt}
use Rattle.std.proofs.lemmas.Bool.Decides.{nat_tests}
use Rattle.std.proofs.lemmas.List.{get_or-set_same, length-take-le}
use Rattle.std.proofs.lemmas.Option.{slice_get_within}
use Rattle.lane_words.specs.Answers.{Answers}
use Rattle.lane_words.specs.declared.limits.TheConstants.{MOST_MEMBERS}
use Rattle.lane_words.specs.declared.Refusal.{Refusal}
use Rattle.lane_words.specs.declared.Refusal.TheVariants as r
use Rattle.partition_log.specs.Keys.{Keyed, of_first}
use Rattle.partition_log.specs.Logs.{PartitionLogs, log_at}
use Rattle.commit_store.specs.Commits.{committed_at}
use Rattle.group_machine.specs.State.{GroupState, is_present, static_member}
use Rattle.group_laws.specs.Others.{IsNewcomer}
use Rattle.group_machine.specs.Steps.{join_answer, joined_by, joined_static_by, leave_answer, left_by, rejoin_answer, rejoined_by, synced_by, take_over_answer, taken_over_by}
use Rattle.group_machine.specs.Cluster.{ClusterState, CommitTerms, LeaseTerms, append_answer, appended_to, cluster_commit_answer, cluster_sync_answer, committed_by, lease_of, with_group}
use Rattle.group_machine.proofs.JoinLemmas.{accepted_join}
use Rattle.group_laws.proofs.OtherLemmas.{join_brings, join_leaves, leave_leaves, leave_takes_out, rejoin_leaves, sync_leaves}
use Rattle.group_machine.proofs.StepLemmas.{any_of_present}
use Rattle.group_laws.proofs.TakeOverLemmas.{accepted_take_over, static_join_brings, static_join_leaves, take_over_hands}
use Rattle.consumer.specs.Consumer.{ConsumerState, answered_by, base_of, commit_of, given_up, hold_answer, joined_as, leased, out_of_group, poll_answer, polled, position_of, sendable_answer}
use Rattle.consumer.proofs.Changed.{poll_leaves, realign_leaves}
use Rattle.world.specs.declared.event.Event.{Event}
use Rattle.world.specs.declared.event.Event.TheVariants as event
use Rattle.world.specs.declared.event.Reply.{Reply}
use Rattle.world.specs.declared.event.Reply.TheVariants as reply
use Rattle.world.specs.declared.event.TheConstants.{MOST_COMMITS}
use Rattle.world.specs.World.{WorldState, commit_at, consumer_of, with_cluster}
use Rattle.world.specs.Steps.{Comes, MayCome, NeverFaults, Outcome, Step, append_event, append_in_event, append_outcome, asked, deliver_event, deliver_unanswered_event, delivered, delivered_unanswered, delivery, dropped, entry_outcome, join_event, join_kept_event, joined_outcome, leave_event, leave_outcome, lose_event, lose_outcome, mail_answer, poll_event, poll_by_consumer, poll_outcome, refused_by_cluster, refused, rejoin_event, rejoin_outcome, send_event, send_by_consumer, send_outcome, sync_event, sync_outcome, take_over_event}
use Rattle.world.specs.Valid.{IsSent, IsValidWorld}
use Rattle.std.proofs.lemmas.Bool.Decides.{nat_tests}
use Rattle.partition_log.specs.Logs.{IsOfTopic}
use Rattle.partition_log.proofs.Stored.{first-topic}
use Rattle.world.proofs.Clusters.{Leaves, append_leaves, commit_leaves, committed_valid, is_it, joined_static_valid, joined_valid, leaves_by_group, leaves_handed_on, left_valid, nothing_leaves, rejoined_valid, synced_valid, taken_over_valid}
use Rattle.world.proofs.SoundConsumers.{join_sound, rejoin_sound, sync_sound}
use Rattle.world.proofs.Groups.{in_step_same}
use Rattle.world.proofs.Lists.{get_push}
use Rattle.world.proofs.Lookups.{consumer_more}
use Rattle.world.proofs.Outcomes.{leased_to}
use Rattle.world.proofs.Refusals.{commit_mismatch, commit_never_faults, commit_unknown, leave_unknown, rejoin_accepted, rejoin_never_faults, rejoin_unknown, sync_present, sync_unknown}
use Rattle.world.proofs.Slots.{joined_slots, joined_static_slots, left_slots, rejoined_slots, synced_slots, taken_over_slots}
use Rattle.world.proofs.Stays.{IsSoundConsumer, both_stay, consumer_stays, out_sound, stays}

alone_stays : (w : WorldState) (new : ClusterState) (m : ℕ) → IsValidWorld w → Leaves w.cluster new m → length new.group.slots ≡ length w.cluster.group.slots
    → ((c : ConsumerState) → consumer_of w m ≡ Some c → IsSoundConsumer new m c) → IsValidWorld (with_cluster w new)
alone_stays w new m v leaves slots sound =
    stays w (with_cluster w new) m v leaves refl (v.a_consumer_each ∙ sym slots) (λ n c e. elim (is_it m n) [
      | inl same ↦ inl (same, sound c (ap (consumer_of w) (sym same) ∙ same_lookup n c e))
      | inr other ↦ inr (other, same_lookup n c e)
    ])
  where
    same_lookup : (k : ℕ) (c : ConsumerState) → consumer_of (with_cluster w new) k ≡ Some c → consumer_of w k ≡ Some c
    same_lookup zero c e = e
    same_lookup (suc i) c e = e

sound_before : (w : WorldState) (m : ℕ) (c : ConsumerState) → IsValidWorld w → consumer_of w m ≡ Some c → IsSoundConsumer w.cluster m c
sound_before w m c v e = record { is_consumer = v.consumers m c e; step = λ here. v.present m c here e }

same_consumer : (w : WorldState) (m : ℕ) (c x : ConsumerState) → consumer_of w m ≡ Some c → consumer_of w m ≡ Some x → c ≡ x
same_consumer w m c x a b = cc

-- ---- appends
pub of_topic : (topic count : ℕ) → nat_lt topic count ≡ true → topic < count
of_topic topic count e = grind (arith, nat_tests)

append_stays : (w : WorldState) (keyed : Keyed) → IsValidWorld w → IsOfTopic w.cluster.logs keyed → IsValidWorld (append_event w keyed).after
append_stays w keyed v topic = go (append_answer w.cluster.logs keyed) refl
  where
    go : (a : Result (ℕ × ℕ) Refusal) → append_answer w.cluster.logs keyed ≡ a → IsValidWorld (append_outcome w keyed a).after
    go (Ok at) is = alone_stays w (appended_to w.cluster keyed) 0 v (append_leaves w.cluster keyed at 0 v.cluster topic is) refl (λ c e. absurd (cc e))
    go (Err why) is = v

append_in_stays : (w : WorldState) (keyed : Keyed) → IsValidWorld w → IsValidWorld (append_in_event w keyed).after
append_in_stays w keyed v = go (nat_lt keyed.0 (length w.cluster.logs.counts)) refl
  where
    go : (b : Bool) → nat_lt keyed.0 (length w.cluster.logs.counts) ≡ b → (let o : Outcome = if b then append_event w keyed else refused w (r.NoSuchTopic 0) in IsValidWorld o.after)
    go true is = append_stays w keyed v (of_topic keyed.0 (length w.cluster.logs.counts) is)
    go false is = v

-- ---- joins
number_within : (w : WorldState) (n : ℕ) (c : ConsumerState) → consumer_of w n ≡ Some c → n ≤ length w.consumers
number_within w zero c e = omega arith
number_within w (suc i) c e = omega (arith, slice_get_within w.consumers i c e)

entered_world : (replied : ℕ → Reply) (group : GroupState) (w : WorldState) (m : ℕ) → IsValidWorld w → Leaves w.cluster (with_group w.cluster group) m → IsNewcomer w.cluster.group group m → m ≡ length w.cluster.group.slots + 1
    → length group.slots ≡ length w.cluster.group.slots + 1 → IsValidWorld (entry_outcome replied group w (Ok m)).after
entered_world replied group w m v leaves brings next slots =
    let g = w.cluster.group in
    let new : ClusterState = with_group w.cluster group in
    let sound = join_sound w.cluster new m leaves.valid leaves.partitions brings (leaves.valid.group.counted (any_of_present group m brings.present)) in
    let number : m ≡ length w.consumers + 1 = omega (arith, next, v.a_consumer_each) in
    let newcomer : ConsumerState = joined_as (out_of_group g.partitions) m in
    stays w (entry_outcome replied group w (Ok m)).after m v leaves refl
    (length-append w.consumers (newcomer ∷ []) ∙ ap (λ n. n + 1) v.a_consumer_each ∙ sym slots)
    (λ n c e. elim (consumer_more w n newcomer c (lookup n c e)) [
      | inl at ↦ inl (at.0 ∙ sym number, subst (IsSoundConsumer new m) (sym at.1) sound)
      | inr old ↦ inr ((λ same. omega (arith, same, number, number_within w n c old)), old)
    ])
  where
    lookup : (n : ℕ) (c : ConsumerState) → consumer_of (entry_outcome replied group w (Ok m)).after n ≡ Some c
        → consumer_of (record w { consumers = w.consumers ++ joined_as (out_of_group w.cluster.group.partitions) m ∷ [] }) n ≡ Some c
    lookup zero c e = e
    lookup (suc i) c e = e

join_stays : (w : WorldState) (name : List ℕ) → IsValidWorld w → IsValidWorld (join_event w name).after
join_stays w name v = go (join_answer w.cluster.group name) refl
  where
    go : (a : Result ℕ Refusal) → join_answer w.cluster.group name ≡ a → IsValidWorld (joined_outcome (joined_by w.cluster.group name) w a).after
    go (Ok m) is =
        let g = w.cluster.group in
        let leaves = leaves_by_group w.cluster (joined_by g name) m (joined_valid w.cluster name m v.cluster is) (join_leaves g name m v.cluster.group is) in
        entered_world (λ n. reply.Joined n) (joined_by g name) w m v leaves (join_brings g name m v.cluster.group is) (accepted_join g name m is).1 (joined_slots g name)
    go (Err why) is = v

join_kept_stays : (w : WorldState) (name : List ℕ) → IsValidWorld w → IsValidWorld (join_kept_event w name).after
join_kept_stays w name v = go (join_answer w.cluster.group name) refl
  where
    go : (a : Result ℕ Refusal) → join_answer w.cluster.group name ≡ a → IsValidWorld (joined_outcome (joined_static_by w.cluster.group name) w a).after
    go (Ok m) is =
        let g = w.cluster.group in
        let leaves = leaves_by_group w.cluster (joined_static_by g name) m (joined_static_valid w.cluster name m v.cluster is) (static_join_leaves g name m v.cluster.group is) in
        entered_world (λ n. reply.Joined n) (joined_static_by g name) w m v leaves (static_join_brings g name m v.cluster.group is) (accepted_join g name m is).1 (joined_static_slots g name)
    go (Err why) is = v

-- ---- take-overs
static_member_of : (g : GroupState) (name : List ℕ) (n : ℕ) → take_over_answer g name ≡ Ok n → (m : ℕ) × (static_member g name ≡ Some m)
static_member_of g name n ok = go (static_member g name) refl ok
  where
    go : (o : Option ℕ) → static_member g name ≡ o → ◌≡◌ {A = Result ℕ Refusal} (if not (is_some o) then Err r.NotKept else if nat_le MOST_MEMBERS (length g.slots) then Err r.TooManyMembers else Ok (length g.slots + 1)) (Ok n)
        → (m : ℕ) × (static_member g name ≡ Some m)
    go None is e = absurd (cc e)
    go (Some m) is e = (m, is)

take_over_stays : (w : WorldState) (name : List ℕ) → IsValidWorld w → IsValidWorld (take_over_event w name).after
take_over_stays w name v = go (take_over_answer w.cluster.group name) refl
  where
    go : (a : Result ℕ Refusal) → take_over_answer w.cluster.group name ≡ a → IsValidWorld (entry_outcome (λ n. reply.TakenOver n) (taken_over_by w.cluster.group name) w a).after
    go (Ok n) is =
        let g = w.cluster.group in
        let found = static_member_of g name n is in
        let hands = take_over_hands g name found.0 n found.1 is in
        let leaves = leaves_handed_on w.cluster (taken_over_by g name) found.0 n (taken_over_valid w.cluster name found.0 n v.cluster found.1 is) hands in
        entered_world (λ k. reply.TakenOver k) (taken_over_by g name) w n v leaves hands.newcomer (omega (arith, (accepted_take_over g name n is).1)) (taken_over_slots g name found.0 found.1)
    go (Err why) is = v

-- ---- losses
lose_stays : (w : WorldState) (m : ℕ) → IsValidWorld w → IsValidWorld (lose_event w m).after
lose_stays w m v = go (leave_answer w.cluster.group m) refl
  where
    go : (a : Result (Unit {0}) Refusal) → leave_answer w.cluster.group m ≡ a → IsValidWorld (lose_outcome w m a).after
    go (Ok u) is =
        let g = w.cluster.group in
        let leaves = leaves_by_group w.cluster (left_by g m) m (left_valid w.cluster m v.cluster is) (leave_leaves g m v.cluster.group is) in
        alone_stays w (with_group w.cluster (left_by g m)) m v leaves (left_slots g m) (λ c e. record {
          is_consumer = consumer_stays w.cluster (with_group w.cluster (left_by g m)) m m c leaves (v.consumers m c e);
          step = λ here. absurd (let gone = leave_takes_out g m v.cluster.group is in cc);
        })
    go (Err why) is = v

-- ---- requests of a consumer
refused_stays : (w : WorldState) (m : ℕ) (why : Refusal) → IsValidWorld w → (why ≡ r.UnknownMember → is_present w.cluster.group m ≡ false) → IsValidWorld (refused_by_cluster w m why).after
refused_stays w m r.UnknownMember v gone =
    both_stay w w.cluster m dropped v (nothing_leaves w.cluster m v.cluster) refl (λ c e. out_sound w.cluster m c (v.consumers m c e) (gone refl))
refused_stays w m why v gone = v

asked_stays : (w : WorldState) (m : ℕ) (f : ConsumerState → Outcome) → IsValidWorld w → ((c : ConsumerState) → consumer_of w m ≡ Some c → IsValidWorld (f c).after) → IsValidWorld (asked w (consumer_of w m) f).after
asked_stays w m f v each = go (consumer_of w m) refl
  where
    out_or_in : (c : ConsumerState) (b : Bool) → IsValidWorld (f c).after → IsValidWorld (let o : Outcome = if b then record { reply = reply.Refused r.OutOfGroup; after = w } else f c in o).after
    out_or_in c true h = v
    out_or_in c false h = h

    go : (o : Option ConsumerState) → consumer_of w m ≡ o → IsValidWorld (asked w o f).after
    go None is = v
    go (Some c) is = out_or_in c (is_none c.member) (each c is)

sync_stays : (w : WorldState) (m : ℕ) → IsValidWorld w → IsValidWorld (sync_event w m).after
sync_stays w m v = asked_stays w m (λ c. sync_outcome w m (cluster_sync_answer w.cluster m)) v (λ c is_consumer. go (cluster_sync_answer w.cluster m) refl)
  where
    go : (a : Result LeaseTerms Refusal) → cluster_sync_answer w.cluster m ≡ a → IsValidWorld (sync_outcome w m a).after
    go (Ok lease) is =
        let g = w.cluster.group in
        let here = sync_present w.cluster m lease is in
        let mine : lease ≡ lease_of w.cluster m = leased_to w.cluster m lease (inl (sym is)) in
        both_stay w (with_group w.cluster (synced_by g m)) m (λ c. leased c lease) v
        (leaves_by_group w.cluster (synced_by g m) m (synced_valid w.cluster m v.cluster) (sync_leaves g m)) (synced_slots g m)
        (λ c e. subst (λ l. IsSoundConsumer (with_group w.cluster (synced_by g m)) m (leased c l)) (sym mine)
        (sync_sound w.cluster m c v.cluster (v.consumers m c e) (v.present m c here e) here))
    go (Err why) is = refused_stays w m why v (λ e. sync_unknown w.cluster m (is ∙ ap (λ x. Err x) e))

rejoin_stays : (w : WorldState) (m : ℕ) → IsValidWorld w → IsValidWorld (rejoin_event w m).after
rejoin_stays w m v = asked_stays w m (λ c. rejoin_outcome w m (rejoin_answer w.cluster.group m c.generation c.assigned)) v (λ c is_consumer. go c is_consumer (rejoin_answer w.cluster.group m c.generation c.assigned) refl)
  where
    go : (c : ConsumerState) → consumer_of w m ≡ Some c → (a : Result (Unit {0}) Refusal) → rejoin_answer w.cluster.group m c.generation c.assigned ≡ a → IsValidWorld (rejoin_outcome w m a).after
    go c is_consumer (Ok u) is =
        let g = w.cluster.group in
        let here = (rejoin_accepted g m c.generation c.assigned is).present in
        both_stay w (with_group w.cluster (rejoined_by g m)) m given_up v
        (leaves_by_group w.cluster (rejoined_by g m) m (rejoined_valid w.cluster m c.generation c.assigned v.cluster is) (rejoin_leaves g m c.generation c.assigned v.cluster.group is)) (rejoined_slots g m)
        (λ x e. subst (λ y. IsSoundConsumer (with_group w.cluster (rejoined_by g m)) m (given_up y)) (same_consumer w m c x is_consumer e)
        (rejoin_sound w.cluster m c v.cluster (v.consumers m c is_consumer) (v.present m c here is_consumer) is))
    go c is_consumer (Err why) is = refused_stays w m why v (λ e. rejoin_unknown w.cluster.group m c.generation c.assigned (is ∙ ap (λ x. Err x) e))

leave_stays : (w : WorldState) (m : ℕ) → IsValidWorld w → IsValidWorld (leave_event w m).after
leave_stays w m v = asked_stays w m (λ c. leave_outcome w m (leave_answer w.cluster.group m)) v (λ c is_consumer. go (leave_answer w.cluster.group m) refl)
  where
    go : (a : Result (Unit {0}) Refusal) → leave_answer w.cluster.group m ≡ a → IsValidWorld (leave_outcome w m a).after
    go (Ok u) is =
        let g = w.cluster.group in
        let new : ClusterState = with_group w.cluster (left_by g m) in
        let leaves = leaves_by_group w.cluster (left_by g m) m (left_valid w.cluster m v.cluster is) (leave_leaves g m v.cluster.group is) in
        both_stay w new m dropped v leaves (left_slots g m)
        (λ c e. out_sound new m c (consumer_stays w.cluster new m m c leaves (v.consumers m c e)) (leave_takes_out g m v.cluster.group is))
    go (Err why) is = refused_stays w m why v (λ e. leave_unknown w.cluster.group m (is ∙ ap (λ x. Err x) e))

-- ---- polls
poll_sound : (s : ClusterState) (m p n count : ℕ) (c : ConsumerState) → IsSoundConsumer s m c → poll_answer c s.logs p n ≡ Ok count → IsSoundConsumer s m (polled c s.logs p n)
poll_sound s m p n count c was ok =
    let left = poll_leaves c s.logs p n count was.is_consumer.valid was.is_consumer.within ok in
    record {
      is_consumer = record {
        valid = left.valid;
        partitions = left.hold.partitions ∙ was.is_consumer.partitions;
        number = λ k e. was.is_consumer.number k (sym left.hold.member ∙ e);
        committed = left.bases (committed_at s.store) was.is_consumer.committed;
        within = left.within;
      };
      step = λ here. in_step_same s.group m c (polled c s.logs p n) left.hold (was.step here);
    }

poll_stays : (w : WorldState) (m p n : ℕ) → IsValidWorld w → IsValidWorld (poll_event w m p n).after
poll_stays w m p n v = go (consumer_of w m) refl
  where
    polls : (c : ConsumerState) → consumer_of w m ≡ Some c → (a : Result ℕ Refusal) → poll_answer c w.cluster.logs p n ≡ a → IsValidWorld (poll_outcome w m p n c a).after
    polls c is_consumer (Ok count) is =
        both_stay w w.cluster m (λ x. polled x w.cluster.logs p n) v (nothing_leaves w.cluster m v.cluster) refl
        (λ x e. subst (λ y. IsSoundConsumer w.cluster m (polled y w.cluster.logs p n)) (same_consumer w m c x is_consumer e) (poll_sound w.cluster m p n count c (sound_before w m c v is_consumer) is))
    polls c is_consumer (Err why) is = v

    go : (o : Option ConsumerState) → consumer_of w m ≡ o → IsValidWorld (poll_by_consumer w m p n o).after
    go None is = v
    go (Some c) is = polls c is (poll_answer c w.cluster.logs p n) refl

-- ---- sends
sendable : (a : Result (Unit {0}) Refusal) (full : Bool) → result_and a (let x : Result (Unit {0}) Refusal = if full then Err r.MailFull else Ok tt in x) ≡ Ok tt → (a ≡ Ok tt) × (full ≡ false)
sendable (Ok u) true e = absurd (cc e)
sendable (Ok u) false e = (refl, refl)
sendable (Err why) full e = absurd (cc e)

pending_some : (a : Result (Unit {0}) Refusal) (none : Bool) → result_and a (let x : Result (Unit {0}) Refusal = if none then Err r.EmptyCommit else Ok tt in x) ≡ Ok tt → none ≡ false
pending_some (Ok u) true e = absurd (cc e)
pending_some (Ok u) false e = refl
pending_some (Err why) none e = absurd (cc e)

differ : (a b : ℕ) → (a == b) ≡ false → a ≡ b → ⊥
differ a b e same = absurd (grind (arith, nat_tests, e, same))

length_between : (xs : List ℕ) (a b : ℕ) → a ≤ b → b ≤ length xs → length (slice_range xs a b) ≡ b - a
length_between xs a b le within = length-take-le (b - a) (drop a xs) (omega (arith, length-drop a xs))

commit_is_sent : (l : PartitionLogs) (c : ConsumerState) (p : ℕ) → base_of c p ≤ position_of c p → position_of c p ≤ length (log_at l p) → (base_of c p ≡ position_of c p → ⊥) → IsSent l (commit_of c l p)
commit_is_sent l c p ordered within some =
    let b = base_of c p in
    let e = position_of c p in
    let long : length (slice_range (log_at l p) b e) ≡ e - b = length_between (log_at l p) b e ordered within in
    record {
      some = omega (arith, long, ordered, less b e ordered some);
      within = omega (arith, long, ordered, within);
      same = ap (slice_range (log_at l p) b) (omega (arith, long, ordered));
    }
  where
    less : (a b : ℕ) → a ≤ b → (a ≡ b → ⊥) → a < b
    less a b le ne =
        elim (cases_lt a b) [
          | inl lt ↦ lt
          | inr ge ↦ absurd (ne (omega arith))
        ]

mail_capacity : (most n : ℕ) → nat_le most n ≡ false → n < most
mail_capacity most n e = grind (arith, nat_tests)

send_stays : (w : WorldState) (m p : ℕ) → IsValidWorld w → IsValidWorld (send_event w m p).after
send_stays w m p v = go (consumer_of w m) refl
  where
    sends : (c : ConsumerState) → consumer_of w m ≡ Some c → (a : Result (Unit {0}) Refusal) → mail_answer w c p ≡ a → IsValidWorld (send_outcome w p c a).after
    sends c is_consumer (Ok u) is =
        let was = v.consumers m c is_consumer in
        let passed = sendable (sendable_answer c p) (nat_le MOST_COMMITS (length w.mail)) is in
        let some = differ (base_of c p) (position_of c p) (pending_some (hold_answer c p) (base_of c p == position_of c p) passed.0) in
        let sent = commit_is_sent w.cluster.logs c p (was.valid.ordered p) (was.within p) some in
        record {
          cluster = v.cluster;
          a_consumer_each = v.a_consumer_each;
          consumers = λ n x e. v.consumers n x (lookup c n x e);
          present = λ n x here e. v.present n x here (lookup c n x e);
          mail = λ i x e. elim (get_push w.mail (commit_of c w.cluster.logs p) x i e) [
            | inl at ↦ subst (IsSent w.cluster.logs) (sym at.1) sent
            | inr old ↦ v.mail i x old
          ];
          few_commits = omega (arith, length-append w.mail (commit_of c w.cluster.logs p ∷ []), mail_capacity MOST_COMMITS (length w.mail) passed.1);
        }
      where
        lookup : (c : ConsumerState) (n : ℕ) (x : ConsumerState) → consumer_of (record w { mail = w.mail ++ commit_of c w.cluster.logs p ∷ [] }) n ≡ Some x → consumer_of w n ≡ Some x
        lookup c zero x e = e
        lookup c (suc i) x e = e
    sends c is_consumer (Err why) is = v

    go : (o : Option ConsumerState) → consumer_of w m ≡ o → IsValidWorld (send_by_consumer w p o).after
    go None is = v
    go (Some c) is = sends c is (mail_answer w c p) refl

-- ---- deliveries
realign_sound : (s : ClusterState) (m p k : ℕ) (c : ConsumerState) → IsSoundConsumer s m c → k ≤ committed_at s.store p → k ≤ length (log_at s.logs p) → IsSoundConsumer s m (answered_by c p (Ok k))
realign_sound s m p k c was base position =
    let left = realign_leaves c p k was.is_consumer.valid in
    let new = answered_by c p (Ok k) in
    record {
      is_consumer = record {
        valid = left.valid;
        partitions = left.hold.partitions ∙ was.is_consumer.partitions;
        number = λ n e. was.is_consumer.number n (sym left.hold.member ∙ e);
        committed = left.bases (committed_at s.store) base was.is_consumer.committed;
        within = left.positions (λ q. length (log_at s.logs q)) position was.is_consumer.within;
      };
      step = λ here. in_step_same s.group m c new left.hold (was.step here);
    }

refused_delivery : (w : WorldState) (c : CommitTerms) (why : Refusal) → IsValidWorld w → cluster_commit_answer w.cluster c ≡ Err why → IsValidWorld (delivered w c (Err why)).after
refused_delivery w c r.UnknownMember v is =
    both_stay w w.cluster c.member (λ x. answered_by x c.partition (Err r.UnknownMember)) v (nothing_leaves w.cluster c.member v.cluster) refl
    (λ x e. out_sound w.cluster c.member x (v.consumers c.member x e) (commit_unknown w.cluster c is))
refused_delivery w c (r.OffsetMismatch k) v is =
    let replied = commit_mismatch w.cluster c k is in
    both_stay w w.cluster c.member (λ x. answered_by x c.partition (Err (r.OffsetMismatch k))) v (nothing_leaves w.cluster c.member v.cluster) refl
    (λ x e. realign_sound w.cluster c.member c.partition k x (sound_before w c.member x v e) (omega (arith, replied)) (omega (arith, replied, v.cluster.exact.within c.partition)))
refused_delivery w c why v is =
    both_stay w w.cluster c.member (λ x. x) v (nothing_leaves w.cluster c.member v.cluster) refl (λ x e. sound_before w c.member x v e)

delivered_stays : (w : WorldState) (c : CommitTerms) (a : Result ℕ Refusal) → IsValidWorld w → cluster_commit_answer w.cluster c ≡ a → IsValidWorld (delivered w c a).after
delivered_stays w c (Ok end) v is =
    let taken = committed_valid w.cluster c end v.cluster is in
    let new = committed_by w.cluster c in
    let leaves = commit_leaves w.cluster c end c.member taken in
    let there : committed_at new.store c.partition ≡ committed_at w.cluster.store c.partition + length c.ids = get_or-set_same w.cluster.store.offsets c.partition (committed_at w.cluster.store c.partition + length c.ids) 0 taken.below in
    both_stay w new c.member (λ x. answered_by x c.partition (Ok end)) v leaves refl
    (λ x e. realign_sound new c.member c.partition end x
    (record { is_consumer = consumer_stays w.cluster new c.member c.member x leaves (v.consumers c.member x e); step = λ here. v.present c.member x here e })
    (omega (arith, taken.end_is, taken.fits.next, there)) (omega (arith, taken.end_is, taken.fits.within)))
delivered_stays w c (Err why) v is = refused_delivery w c why v is

unanswered_stays : (w : WorldState) (c : CommitTerms) (a : Result ℕ Refusal) → IsValidWorld w → cluster_commit_answer w.cluster c ≡ a → IsValidWorld (delivered_unanswered w c a).after
unanswered_stays w c (Ok end) v is =
    alone_stays w (committed_by w.cluster c) 0 v (commit_leaves w.cluster c end 0 (committed_valid w.cluster c end v.cluster is)) refl (λ x e. absurd (cc e))
unanswered_stays w c (Err why) v is = v

delivery_stays : (w : WorldState) (f : CommitTerms → Result ℕ Refusal → Outcome) → IsValidWorld w → ((c : CommitTerms) → IsValidWorld (f c (cluster_commit_answer w.cluster c)).after) → (o : Option CommitTerms) → IsValidWorld (delivery w f o).after
delivery_stays w f v each None = v
delivery_stays w f v each (Some c) = each c

-- ---- every event
came : (outcome : Outcome) (replied : Reply) (w2 : WorldState) → Comes outcome replied w2 → IsValidWorld outcome.after → IsValidWorld w2
came outcome replied w2 comes v = subst IsValidWorld (sym comes.1) v

may_come : (w : WorldState) (outcome : Outcome) (replied : Reply) (w2 : WorldState) → IsValidWorld w → MayCome w outcome replied w2 → IsValidWorld outcome.after → IsValidWorld w2
may_come w outcome replied w2 was (inl comes) v = subst IsValidWorld (sym comes.1) v
may_come w outcome replied w2 was (inr comes) v = subst IsValidWorld (sym comes.1) was

pub valid_after : (w : WorldState) (e : Event) (replied : Reply) (w2 : WorldState) → IsValidWorld w → Step w e replied w2 → IsValidWorld w2
valid_after w (event.Append key) replied w2 v step = may_come w (append_event w (of_first key.now)) replied w2 v step (append_stays w (of_first key.now) v (first-topic w.cluster.logs key.now v.cluster.logs))
valid_after w (event.AppendIn topic key) replied w2 v step = may_come w (append_in_event w (topic, key.now)) replied w2 v step (append_in_stays w (topic, key.now) v)
valid_after w (event.Join name) replied w2 v step = may_come w (join_event w name.now) replied w2 v step (join_stays w name.now v)
valid_after w (event.JoinKept name) replied w2 v step = may_come w (join_kept_event w name.now) replied w2 v step (join_kept_stays w name.now v)
valid_after w (event.TakeOver name) replied w2 v step = may_come w (take_over_event w name.now) replied w2 v step (take_over_stays w name.now v)
valid_after w (event.Sync m) replied w2 v step = may_come w (sync_event w m) replied w2 v step (sync_stays w m v)
valid_after w (event.Rejoin m) replied w2 v step = may_come w (rejoin_event w m) replied w2 v step (rejoin_stays w m v)
valid_after w (event.Leave m) replied w2 v step = may_come w (leave_event w m) replied w2 v step (leave_stays w m v)
valid_after w (event.Lose m) replied w2 v step = may_come w (lose_event w m) replied w2 v step (lose_stays w m v)
valid_after w (event.Poll m p n) replied w2 v step = came (poll_event w m p n) replied w2 step (poll_stays w m p n v)
valid_after w (event.Send m p) replied w2 v step = may_come w (send_event w m p) replied w2 v step (send_stays w m p v)
valid_after w (event.Deliver k) replied w2 v step =
    came (deliver_event w k) replied w2 step (delivery_stays w (delivered w) v (λ c. delivered_stays w c (cluster_commit_answer w.cluster c) v refl) (commit_at w k))
valid_after w (event.DeliverUnanswered k) replied w2 v step =
    came (deliver_unanswered_event w k) replied w2 step (delivery_stays w (delivered_unanswered w) v (λ c. unanswered_stays w c (cluster_commit_answer w.cluster c) v refl) (commit_at w k))

-- ---- refusals that never occur
commit_sent : (w : WorldState) (k : ℕ) (c : CommitTerms) → IsValidWorld w → commit_at w k ≡ Some c → IsSent w.cluster.logs c
commit_sent w zero c v e = absurd (cc e)
commit_sent w (suc i) c v e = v.mail i c e

pub never_faults : (w : WorldState) (e : Event) → IsValidWorld w → NeverFaults w e
never_faults w (event.Append key) v = tt
never_faults w (event.AppendIn topic key) v = tt
never_faults w (event.Join name) v = tt
never_faults w (event.JoinKept name) v = tt
never_faults w (event.TakeOver name) v = tt
never_faults w (event.Sync m) v = tt
never_faults w (event.Rejoin m) v = λ c is_consumer. rejoin_never_faults w.cluster.group m c.generation c.assigned
    (λ here same. (v.present m c here is_consumer).synced.0 same)
    (λ here same. let step = v.present m c here is_consumer in step.assigned (step.synced.0 same))
never_faults w (event.Leave m) v = tt
never_faults w (event.Lose m) v = tt
never_faults w (event.Poll m p n) v = tt
never_faults w (event.Send m p) v = tt
never_faults w (event.Deliver k) v = λ c is_sent. commit_never_faults w.cluster c (commit_sent w k c v is_sent)
never_faults w (event.DeliverUnanswered k) v = λ c is_sent. commit_never_faults w.cluster c (commit_sent w k c v is_sent)

pub appended_world : (w : WorldState) (keyed : Keyed) (at : ℕ × ℕ) (s : ClusterState) → IsValidWorld w → IsOfTopic w.cluster.logs keyed → Answers (append_answer w.cluster.logs keyed) (Ok at) → s ≡ appended_to w.cluster keyed → IsValidWorld (with_cluster w s)
appended_world w keyed at s v topic (inr wrong) is = absurd (cc wrong)
appended_world w keyed at s v topic (inl answer) is =
    subst (λ x. IsValidWorld (with_cluster w x)) (sym is) (alone_stays w (appended_to w.cluster keyed) 0 v (append_leaves w.cluster keyed at 0 v.cluster topic (sym answer)) refl (λ c e. absurd (cc e)))
