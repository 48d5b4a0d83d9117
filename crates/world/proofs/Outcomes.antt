-- The outcomes of events, given the consumer of the member.
use Rattle.std.proofs.Common.{◌≡◌, ◌⊎◌, ◌∙◌, ◌+◌, ◌<◌, ℕ, suc, false, List, [], ◌∷◌, ◌++◌, Option, Some, None, Result, Ok, Err, length, slice_index_or, refl, sym, ap, subst, inl, inr, arith}
use Rattle.std.specs.Prelude.{is_none, slice_get, slice_set, if◌then◌else◌, nat_le}
use Rattle.std.specs.Result.{result_and}
use Rattle.std.proofs.lemmas.Bool.Decides.{nat_tests}
use Rattle.std.proofs.lemmas.List.{set-get_or}
use Rattle.std.proofs.lemmas.Option.{slice_get-get_or}
use Rattle.lane_words.specs.Answers.{Answers}
use Rattle.lane_words.specs.declared.Refusal.{Refusal}
use Rattle.lane_words.specs.declared.Refusal.TheVariants as r
use Rattle.consumer.specs.Consumer.{ConsumerState, commit_of, joined_as, leased, out_of_group, poll_answer, polled, send_answer, sendable_answer}
use Rattle.group_machine.specs.Cluster.{ClusterState, CommitTerms, LeaseTerms, cluster_sync_answer, lease_of, with_group}
use Rattle.group_machine.specs.State.{GroupState}
use Rattle.group_machine.specs.Steps.{rejoin_answer, sync_answer, synced_by}
use Rattle.world.specs.declared.event.TheConstants.{MOST_COMMITS}
use Rattle.world.specs.declared.event.Reply.{Reply}
use Rattle.world.specs.declared.event.Reply.TheVariants as reply
use Rattle.world.specs.World.{WorldState, consumer_of, on_consumer, with_cluster}
use Rattle.world.specs.Steps.{Comes, MayCome, Outcome, asked, both, entry_outcome, poll_event, poll_by_consumer, poll_outcome, refused, refused_by_cluster, rejoin_event, rejoin_outcome, send_event, send_by_consumer, send_outcome, sync_event, sync_outcome}
use Rattle.world.specs.Private.Lookups.{IsAsking}

-- the world with this consumer at an index
abbrev pub put : WorldState → ℕ → ConsumerState → WorldState
put w i c = record w { consumers = slice_set w.consumers i c }

pub consumer_there : (w : WorldState) (i : ℕ) (c : ConsumerState) → i < length w.consumers → c ≡ slice_index_or w.consumers i c → slice_get w.consumers i ≡ Some c
consumer_there w i c lt at = slice_get-get_or w.consumers i c lt ∙ ap (λ x. Some x) (sym at)

pub consumer_at : (w : WorldState) (m i : ℕ) (c : ConsumerState) → m ≡ suc i → i < length w.consumers → c ≡ slice_index_or w.consumers i c → consumer_of w m ≡ Some c
consumer_at w m i c number lt at = rw number (consumer_there w i c lt at)

pub changed_at : (w : WorldState) (m i : ℕ) (f : ConsumerState → ConsumerState) (c : ConsumerState) → m ≡ suc i → consumer_of w m ≡ Some c → on_consumer w m f ≡ put w i (f c)
changed_at w m i f c number is_consumer = rw is_consumer (rw number refl)

pub put_same : (w : WorldState) (i : ℕ) (c : ConsumerState) → c ≡ slice_index_or w.consumers i c → put w i c ≡ w
put_same w i c at =
    ap (λ (x : ConsumerState). put w i x) at ∙ ap (λ (cs : List ConsumerState). record w { consumers = cs }) (set-get_or w.consumers i c)

pub poll_ok : (w : WorldState) (m i p n count : ℕ) (c new : ConsumerState) → m ≡ suc i → consumer_of w m ≡ Some c
    → Ok count ≡ poll_answer c w.cluster.logs p n → new ≡ polled c w.cluster.logs p n → Comes (poll_event w m p n) (reply.Polled count) (put w i new)
poll_ok w m i p n count c new number is_consumer answer is =
    let event : poll_event w m p n ≡ poll_outcome w m p n c (Ok count) = ap (poll_by_consumer w m p n) is_consumer ∙ ap (poll_outcome w m p n c) (sym answer) in
    let after : put w i new ≡ on_consumer w m (λ x. polled x w.cluster.logs p n) = ap (put w i) is ∙ sym (changed_at w m i (λ x. polled x w.cluster.logs p n) c number is_consumer) in
    (ap (λ (o : Outcome). o.reply) (sym event), after ∙ ap (λ (o : Outcome). o.after) (sym event))

pub poll_err : (w : WorldState) (m i p n : ℕ) (why : Refusal) (c new : ConsumerState) → consumer_of w m ≡ Some c → c ≡ slice_index_or w.consumers i c
    → Err why ≡ poll_answer c w.cluster.logs p n → new ≡ c → Comes (poll_event w m p n) (reply.Refused why) (put w i new)
poll_err w m i p n why c new is_consumer at answer is =
    let event : poll_event w m p n ≡ poll_outcome w m p n c (Err why) = ap (poll_by_consumer w m p n) is_consumer ∙ ap (poll_outcome w m p n c) (sym answer) in
    (ap (λ (o : Outcome). o.reply) (sym event), ap (put w i) is ∙ put_same w i c at ∙ ap (λ (o : Outcome). o.after) (sym event))

pub asks : (w : WorldState) (m i : ℕ) (c : ConsumerState) (f : ConsumerState → Outcome) → IsAsking w m i → slice_get w.consumers i ≡ Some c → asked w (consumer_of w m) f ≡ f c
asks w m i c f asking there =
    let is_consumer : consumer_of w m ≡ Some c = rw asking.number there in
    ap (λ o. asked w o f) is_consumer ∙ ap (λ b. if b then refused w r.OutOfGroup else f c) (asking.present c there)

pub refused_ok : (w w2 : WorldState) (m i : ℕ) (event : Outcome) (why : Refusal) (replied : Reply) → m ≡ suc i → (event ≡ refused_by_cluster w m why) ⊎ (why ≡ r.Memory)
    → Comes (refused_by_cluster w (suc i) why) replied w2 → MayCome w event replied w2
refused_ok w w2 m i event why replied number (inl is) comes = inl (rw is (rw number comes))
refused_ok w w2 m i event why replied number (inr is) comes = inr (subst (λ (x : Refusal). Comes (refused_by_cluster w (suc i) x) replied w2) is comes)

pub sync_ok : (w : WorldState) (m i : ℕ) (c new : ConsumerState) (s : ClusterState) (lease : LeaseTerms) (generation : ℕ) → IsAsking w m i → slice_get w.consumers i ≡ Some c
    → Answers (cluster_sync_answer w.cluster m) (Ok lease) → s ≡ with_group w.cluster (synced_by w.cluster.group m) → new ≡ leased c lease → generation ≡ lease.generation
    → MayCome w (sync_event w m) (reply.Leased generation) (put (with_cluster w s) i new)
sync_ok w m i c new s lease generation asking there (inr wrong) stepped is same = absurd (cc wrong)
sync_ok w m i c new s lease generation asking there (inl answer) stepped is same =
    let is_consumer : consumer_of w m ≡ Some c = rw asking.number there in
    let event : sync_event w m ≡ sync_outcome w m (Ok lease) = asks w m i c (λ x. sync_outcome w m (cluster_sync_answer w.cluster m)) asking there ∙ ap (sync_outcome w m) (sym answer) in
    let after : put (with_cluster w s) i new ≡ both w m (with_group w.cluster (synced_by w.cluster.group m)) (λ x. leased x lease) =
    ap (put (with_cluster w s) i) is ∙ ap (λ t. put (with_cluster w t) i (leased c lease)) stepped
    ∙ sym (changed_at (with_cluster w (with_group w.cluster (synced_by w.cluster.group m))) m i (λ x. leased x lease) c asking.number is_consumer) in
    inl (ap (λ n. reply.Leased n) same ∙ ap (λ (o : Outcome). o.reply) (sym event), after ∙ ap (λ (o : Outcome). o.after) (sym event))

refused_is : {A : Type 0} (expected : Result A Refusal) (why : Refusal) (f : Result A Refusal → Outcome) (event g : Outcome) → Answers expected (Err why) → event ≡ f expected → f (Err why) ≡ g → (event ≡ g) ⊎ (why ≡ r.Memory)
refused_is expected why f event g (inl same) is e = inl (is ∙ ap f (sym same) ∙ e)
refused_is expected why f event g (inr same) is e = inr cc

pub sync_refused : (w : WorldState) (m i : ℕ) (c : ConsumerState) (why : Refusal) → IsAsking w m i → slice_get w.consumers i ≡ Some c
    → Answers (cluster_sync_answer w.cluster m) (Err why) → (sync_event w m ≡ refused_by_cluster w m why) ⊎ (why ≡ r.Memory)
sync_refused w m i c why asking there answer =
    refused_is (cluster_sync_answer w.cluster m) why (sync_outcome w m) (sync_event w m) (refused_by_cluster w m why) answer
    (asks w m i c (λ x. sync_outcome w m (cluster_sync_answer w.cluster m)) asking there) refl

pub rejoin_refused : (w : WorldState) (m i : ℕ) (c : ConsumerState) (why : Refusal) → IsAsking w m i → slice_get w.consumers i ≡ Some c
    → Answers (rejoin_answer w.cluster.group m c.generation c.assigned) (Err why) → (rejoin_event w m ≡ refused_by_cluster w m why) ⊎ (why ≡ r.Memory)
rejoin_refused w m i c why asking there answer =
    refused_is (rejoin_answer w.cluster.group m c.generation c.assigned) why (rejoin_outcome w m) (rejoin_event w m) (refused_by_cluster w m why) answer
    (asks w m i c (λ x. rejoin_outcome w m (rejoin_answer w.cluster.group m x.generation x.assigned)) asking there) refl

pub no_more : (most n : ℕ) → n < most → nat_le most n ≡ false
no_more most n lt = grind (arith, nat_tests)

send_is : (w : WorldState) (p : ℕ) (c : ConsumerState) → sendable_answer c p ≡ Ok tt → nat_le MOST_COMMITS (length w.mail) ≡ false → send_by_consumer w p (Some c) ≡ send_outcome w p c (Ok tt)
send_is w p c some capacity = rw (some, capacity) refl

pub send_ok : (w : WorldState) (m p sent : ℕ) (c : ConsumerState) (commit : CommitTerms) (mail : List CommitTerms) → consumer_of w m ≡ Some c
    → sendable_answer c p ≡ Ok tt → nat_le MOST_COMMITS (length w.mail) ≡ false → Answers (send_answer c w.cluster.logs p) (Ok commit) → sent ≡ length w.mail + 1 → mail ≡ w.mail ++ commit ∷ []
    → MayCome w (send_event w m p) (reply.Sent sent) (record w { mail = mail })
send_ok w m p sent c commit mail is_consumer some capacity (inr wrong) count grown = absurd (cc wrong)
send_ok w m p sent c commit mail is_consumer some capacity (inl answer) count grown =
    let event : send_event w m p ≡ send_outcome w p c (Ok tt) = ap (send_by_consumer w p) is_consumer ∙ send_is w p c some capacity in
    let is : commit ≡ commit_of c w.cluster.logs p = let e = rw some at answer in cc in
    let after : record w { mail = mail } ≡ record w { mail = w.mail ++ commit_of c w.cluster.logs p ∷ [] } =
    ap (λ (x : List CommitTerms). record w { mail = x }) grown ∙ ap (λ x. record w { mail = w.mail ++ x ∷ [] }) is in
    inl (ap (λ n. reply.Sent n) count ∙ ap (λ (o : Outcome). o.reply) (sym event), after ∙ ap (λ (o : Outcome). o.after) (sym event))

pub leased_to : (s : ClusterState) (m : ℕ) (lease : LeaseTerms) → Answers (cluster_sync_answer s m) (Ok lease) → lease ≡ lease_of s m
leased_to s m lease (inr wrong) = absurd (cc wrong)
leased_to s m lease (inl same) = go (sync_answer s.group m) same
  where
    go : (answer : Result (Unit {0}) Refusal) → Ok lease ≡ result_and answer (Ok (lease_of s m)) → lease ≡ lease_of s m
    go (Ok u) e = cc
    go (Err why) e = absurd (cc e)

pub is_in_as : (member : Option ℕ) (m : ℕ) → is_none member ≡ false → ((n : ℕ) → member ≡ Some n → n ≡ m) → member ≡ Some m
is_in_as None m some number = absurd (cc some)
is_in_as (Some n) m some number = ap (λ k. Some k) (number n refl)

pub entered : (replied : ℕ → Reply) (group : GroupState) (w : WorldState) (answer : Result ℕ Refusal) (member : ℕ) (s : ClusterState) (consumers : List ConsumerState) → Answers answer (Ok member)
    → s ≡ with_group w.cluster group → consumers ≡ w.consumers ++ joined_as (out_of_group w.cluster.group.partitions) member ∷ []
    → MayCome w (entry_outcome replied group w answer) (replied member) (record { cluster = s; consumers = consumers; mail = w.mail })
entered replied group w answer member s consumers (inr wrong) stepped grown = absurd (cc wrong)
entered replied group w answer member s consumers (inl same) stepped grown =
    let event : entry_outcome replied group w answer ≡ entry_outcome replied group w (Ok member) = ap (entry_outcome replied group w) (sym same) in
    let after : ◌≡◌ {A = WorldState} (record { cluster = s; consumers = consumers; mail = w.mail }) (entry_outcome replied group w (Ok member)).after =
    ap (λ (t : ClusterState). record w { cluster = t; consumers = consumers }) stepped
    ∙ ap (λ (cs : List ConsumerState). record w { cluster = with_group w.cluster group; consumers = cs }) grown in
    inl (ap (λ (o : Outcome). o.reply) (sym event), after ∙ ap (λ (o : Outcome). o.after) (sym event))
