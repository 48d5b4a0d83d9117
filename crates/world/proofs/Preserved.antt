-- A relation that each event of a kind keeps is kept by courses of such events.
use Rattle.std.proofs.Common.{◌≡◌, ◌∙◌, ◌≤◌, ℕ, zero, suc, Bool, true, false, List, [], ◌∷◌, ◌++◌, Option, Some, None, Result, Ok, Err, cond, length, refl, sym, ap, subst, inl, inr, arith}
use Rattle.std.specs.Prelude.{is_none}
use Rattle.lane_words.specs.declared.Refusal.{Refusal}
use Rattle.lane_words.specs.declared.Refusal.TheVariants as r
use Rattle.bit_planes.specs.PartitionSet.{elements}
use Rattle.partition_log.specs.Logs.{log_at}
use Rattle.commit_store.specs.Commits.{committed_at}
use Rattle.group_machine.specs.State.{GroupState, is_present, members}
use Rattle.group_machine.specs.Cluster.{ClusterState, CommitTerms, IsValidCluster, LeaseTerms, cluster_commit_answer, cluster_sync_answer, with_group}
use Rattle.group_machine.specs.NextSteps.{has_to_rejoin}
use Rattle.group_machine.specs.Steps.{rejoin_answer, rejoined_by, synced_by}
use Rattle.group_laws.proofs.PassLemmas.{rejoined_present, synced_present}
use Rattle.consumer.specs.Consumer.{ConsumerState, answered_by, given_up, leased, poll_answer, polled}
use Rattle.world.specs.declared.event.Event.{Event}
use Rattle.world.specs.declared.event.Event.TheVariants as event
use Rattle.world.specs.Courses.{Course, Follows, after_all, chain, for_each, goes_on, happens, nothing, outcome_of}
use Rattle.world.specs.Draining.{drain_log, drain_member, drain_members, held_by, is_read_up, read_on, read_up}
use Rattle.world.specs.Settling.{commit_pending, flush, forgiven, is_pending, rejoin_if_due, sync_if_new, turn}
use Rattle.world.specs.Steps.{Outcome, asked, delivered, delivery, dropped, given, mail_answer, poll_event, poll_by_consumer, poll_outcome, refused, refused_by_cluster, rejoin_outcome, send_event, send_by_consumer, send_outcome, sync_outcome}
use Rattle.world.specs.Valid.{IsValidWorld}
use Rattle.world.specs.World.{WorldState, commit_at, consumer_of, with_cluster}
use Rattle.world.proofs.Clusters.{commit_leaves, committed_valid}
use Rattle.world.proofs.Events.{valid_after}
use Rattle.world.proofs.Following.{IsCourse, drain_members_course}
use Rattle.world.proofs.Stays.{on_cluster}

-- ---- events of a kind, and a relation that they keep
abbrev pub AreAll : (Event → Type 0) → List Event → Type 0
AreAll E [] = Unit {0}
AreAll E (e ∷ es) = E e × AreAll E es

pub record Preserves (E : Event → Type 0) (R : WorldState → WorldState → Type 0) : Type 0 where
  pub same : (w : WorldState) → R w w
  pub both : (a b c : WorldState) → R a b → R b c → R a c
  pub step : (w : WorldState) (e : Event) → E e → R w (outcome_of w e).after

pub preserved_all : (E : Event → Type 0) (R : WorldState → WorldState → Type 0) → Preserves E R → (w : WorldState) (es : List Event) → AreAll E es → R w (after_all w es)
preserved_all E R k w [] all = k.same w
preserved_all E R k w (e ∷ es) all = k.both w (outcome_of w e).after (after_all (outcome_of w e).after es) (k.step w e all.0) (preserved_all E R k (outcome_of w e).after es all.1)

pub all_append : (E : Event → Type 0) (xs ys : List Event) → AreAll E xs → AreAll E ys → AreAll E (xs ++ ys)
all_append E [] ys a b = b
all_append E (x ∷ xs) ys a b = (a.0, all_append E xs ys a.1 b)

all_first : (E : Event → Type 0) (xs ys : List Event) → AreAll E (xs ++ ys) → AreAll E xs
all_first E [] ys a = tt
all_first E (x ∷ xs) ys a = (a.0, all_first E xs ys a.1)

pub preserved_course : (E : Event → Type 0) (R : WorldState → WorldState → Type 0) → Preserves E R → (w : WorldState) (c : Course) → IsCourse w c → AreAll E c.events → R w c.after
preserved_course E R k w c made all = subst (R w) (sym made) (preserved_all E R k w c.events all)

pub preserved_following : (E : Event → Type 0) (R : WorldState → WorldState → Type 0) → Preserves E R → (w w2 : WorldState) (c : Course) (result : Result (Unit {0}) Refusal) → IsCourse w c → AreAll E c.events → Follows w c result w2 → R w w2
preserved_following E R k w w2 c result made all (inl replied) = subst (R w) (sym replied.1) (preserved_course E R k w c made all)
preserved_following E R k w w2 c result made all (inr way) =
    subst (R w) (sym way.1.world_is) (preserved_all E R k w way.1.came (all_first E way.1.came way.1.left (subst (AreAll E) way.1.events_are all)))

-- ---- the events of courses
goes_on_events : (E : Event → Type 0) (first second : Course) (a : Result (Unit {0}) Refusal) → AreAll E first.events → AreAll E second.events → AreAll E (goes_on first second a).events
goes_on_events E first second (Ok u) h k = all_append E first.events second.events h k
goes_on_events E first second (Err why) h k = h

pub chain_events : (E : Event → Type 0) (first : Course) (next : WorldState → Course) → AreAll E first.events → ((x : WorldState) → AreAll E (next x).events) → AreAll E (chain first next).events
unfolding chain
chain_events E first next h k = goes_on_events E first (next first.after) first.answer h (k first.after)

pub each_events : (E : Event → Type 0) (ns : List ℕ) (course : ℕ → WorldState → Course) → ((n : ℕ) (x : WorldState) → AreAll E (course n x).events) → (w : WorldState) → AreAll E (for_each ns course w).events
unfolding for_each
each_events E [] course h w = tt
each_events E (n ∷ ns) course h w = chain_events E (course n w) (for_each ns course) (h n w) (each_events E ns course h)

pub happens_events : (E : Event → Type 0) (e : Event) (w : WorldState) → E e → AreAll E (happens e w).events
unfolding happens
happens_events E e w h = (h, tt)

if_events : (E : Event → Type 0) (b : Bool) (c d : Course) → AreAll E c.events → AreAll E d.events → AreAll E (cond b c d).events
if_events E true c d h k = h
if_events E false c d h k = k

-- events of consumers that read and commit
abbrev pub IsReading : Event → Type 0
IsReading (event.Poll m p n) = Unit {0}
IsReading (event.Send m p) = Unit {0}
IsReading (event.Deliver k) = Unit {0}
IsReading e = ⊥

-- and also those of members that take part in a rebalance
abbrev pub IsOfTurn : Event → Type 0
IsOfTurn (event.Sync m) = Unit {0}
IsOfTurn (event.Rejoin m) = Unit {0}
IsOfTurn e = IsReading e

-- courses whose events are of one of these kinds: sends and deliveries are of both
pub record IsOpen (E : Event → Type 0) : Type 0 where
  pub poll : (m p n : ℕ) → E (event.Poll m p n)
  pub send : (m p : ℕ) → E (event.Send m p)
  pub deliver : (k : ℕ) → E (event.Deliver k)

pub reading_open : IsOpen IsReading
reading_open = record { poll = λ m p n. tt; send = λ m p. tt; deliver = λ k. tt }

pub turn_open : IsOpen IsOfTurn
turn_open = record { poll = λ m p n. tt; send = λ m p. tt; deliver = λ k. tt }

pub commit_events : (E : Event → Type 0) → IsOpen E → (m p : ℕ) (w : WorldState) → AreAll E (commit_pending m p w).events
unfolding commit_pending
commit_events E o m p w =
    if_events E (is_pending w m p) _ (nothing w)
    (chain_events E (happens (event.Send m p) w) (λ sent. happens (event.Deliver (length sent.mail)) sent) (happens_events E (event.Send m p) w (o.send m p)) (λ x. happens_events E (event.Deliver (length x.mail)) x (o.deliver (length x.mail)))) tt

pub flush_events : (E : Event → Type 0) → IsOpen E → (m p : ℕ) (w : WorldState) → AreAll E (flush m p w).events
unfolding flush
flush_events E o m p w = chain_events E (forgiven (commit_pending m p w)) (commit_pending m p) (commit_events E o m p w) (commit_events E o m p)

pub flushes_events : (E : Event → Type 0) → IsOpen E → (ns : List ℕ) (m : ℕ) (w : WorldState) → AreAll E (for_each ns (flush m) w).events
flushes_events E o ns m w = each_events E ns (flush m) (flush_events E o m) w

pub read_on_events : (E : Event → Type 0) → IsOpen E → (batch m p : ℕ) (w : WorldState) → AreAll E (read_on batch m p w).events
unfolding read_on
read_on_events E o batch m p w =
    chain_events E (happens (event.Poll m p batch) w) (λ read. forgiven (commit_pending m p read)) (happens_events E (event.Poll m p batch) w (o.poll m p batch)) (commit_events E o m p)

pub read_up_events : (E : Event → Type 0) → IsOpen E → (n batch m p : ℕ) (w : WorldState) → AreAll E (read_up n batch m p w).events
unfolding read_up
read_up_events E o zero batch m p w = tt
read_up_events E o (suc n) batch m p w = if_events E (is_read_up w m p) (nothing w) _ tt (chain_events E (read_on batch m p w) (read_up n batch m p) (read_on_events E o batch m p w) (read_up_events E o n batch m p))

pub drain_log_events : (E : Event → Type 0) → IsOpen E → (batch m p : ℕ) (w : WorldState) → AreAll E (drain_log batch m p w).events
unfolding drain_log
drain_log_events E o batch m p w = read_up_events E o (length (log_at w.cluster.logs p)) batch m p w

pub drain_member_events : (E : Event → Type 0) → IsOpen E → (batch m : ℕ) (w : WorldState) → AreAll E (drain_member batch m w).events
unfolding drain_member
drain_member_events E o batch m w = each_events E (elements (held_by w m)) (drain_log batch m) (drain_log_events E o batch m) w

pub drain_members_events : (E : Event → Type 0) → IsOpen E → (batch : ℕ) (w : WorldState) → AreAll E (drain_members batch w).events
unfolding drain_members
drain_members_events E o batch w = each_events E (members w.cluster.group) (drain_member batch) (drain_member_events E o batch) w

pub sync_events : (m : ℕ) (w : WorldState) → AreAll IsOfTurn (sync_if_new m w).events
unfolding sync_if_new
sync_events m w = if_events IsOfTurn _ (nothing w) (happens (event.Sync m) w) tt (happens_events IsOfTurn (event.Sync m) w tt)

pub rejoin_events : (m : ℕ) (w : WorldState) → AreAll IsOfTurn (rejoin_if_due m w).events
unfolding rejoin_if_due
rejoin_events m w =
    if_events IsOfTurn (has_to_rejoin w.cluster.group m) _ (nothing w)
    (chain_events IsOfTurn _ (happens (event.Rejoin m)) (flushes_events IsOfTurn turn_open _ m w) (λ x. happens_events IsOfTurn (event.Rejoin m) x tt)) tt

pub turn_events : (m : ℕ) (w : WorldState) → AreAll IsOfTurn (turn m w).events
unfolding turn
turn_events m w = chain_events IsOfTurn (sync_if_new m w) (rejoin_if_due m) (sync_events m w) (rejoin_events m)

-- ---- reading and committing leave the group and the logs
pub record LeavesGroup (w w2 : WorldState) : Type 0 where
  pub group : w2.cluster.group ≡ w.cluster.group
  pub logs : w2.cluster.logs ≡ w.cluster.logs

leaves_cluster : (w w2 : WorldState) → w2.cluster ≡ w.cluster → LeavesGroup w w2
leaves_cluster w w2 same = record { group = ap (λ (s : ClusterState). s.group) same; logs = ap (λ (s : ClusterState). s.logs) same }

pub poll_cluster : (w : WorldState) (m p n : ℕ) → (poll_event w m p n).after.cluster ≡ w.cluster
poll_cluster w m p n = by_consumer (consumer_of w m)
  where
    replied : (c : ConsumerState) (a : Result ℕ Refusal) → (poll_outcome w m p n c a).after.cluster ≡ w.cluster
    replied c (Ok count) = on_cluster w m (λ x. polled x w.cluster.logs p n) (consumer_of w m)
    replied c (Err why) = refl

    by_consumer : (o : Option ConsumerState) → (poll_by_consumer w m p n o).after.cluster ≡ w.cluster
    by_consumer None = refl
    by_consumer (Some c) = replied c (poll_answer c w.cluster.logs p n)

pub send_cluster : (w : WorldState) (m p : ℕ) → (send_event w m p).after.cluster ≡ w.cluster
send_cluster w m p = by_consumer (consumer_of w m)
  where
    replied : (c : ConsumerState) (a : Result (Unit {0}) Refusal) → (send_outcome w p c a).after.cluster ≡ w.cluster
    replied c (Ok u) = refl
    replied c (Err why) = refl

    by_consumer : (o : Option ConsumerState) → (send_by_consumer w p o).after.cluster ≡ w.cluster
    by_consumer None = refl
    by_consumer (Some c) = replied c (mail_answer w c p)

given_leaves : (s : ClusterState) (c : CommitTerms) (a : Result ℕ Refusal) → ((given s c a).group ≡ s.group) × ((given s c a).logs ≡ s.logs)
given_leaves s c (Ok end) = (refl, refl)
given_leaves s c (Err why) = (refl, refl)

deliver_leaves : (w : WorldState) (o : Option CommitTerms) → LeavesGroup w (delivery w (delivered w) o).after
deliver_leaves w None = record { group = refl; logs = refl }
deliver_leaves w (Some c) =
    let a = cluster_commit_answer w.cluster c in
    let new = given w.cluster c a in
    let same : (delivered w c a).after.cluster ≡ new = on_cluster (with_cluster w new) c.member (λ x. answered_by x c.partition a) (consumer_of (with_cluster w new) c.member) in
    record {
      group = ap (λ (s : ClusterState). s.group) same ∙ (given_leaves w.cluster c a).0;
      logs = ap (λ (s : ClusterState). s.logs) same ∙ (given_leaves w.cluster c a).1;
    }

reading_leaves : (w : WorldState) (e : Event) → IsReading e → LeavesGroup w (outcome_of w e).after
reading_leaves w (event.Poll m p n) h = leaves_cluster w _ (poll_cluster w m p n)
reading_leaves w (event.Send m p) h = leaves_cluster w _ (send_cluster w m p)
reading_leaves w (event.Deliver k) h = deliver_leaves w (commit_at w k)
reading_leaves w (event.Append key) h = absurd h
reading_leaves w (event.AppendIn topic key) h = absurd h
reading_leaves w (event.Join name) h = absurd h
reading_leaves w (event.JoinKept name) h = absurd h
reading_leaves w (event.TakeOver name) h = absurd h
reading_leaves w (event.Sync m) h = absurd h
reading_leaves w (event.Rejoin m) h = absurd h
reading_leaves w (event.Leave m) h = absurd h
reading_leaves w (event.Lose m) h = absurd h
reading_leaves w (event.DeliverUnanswered k) h = absurd h

pub preserves_group : Preserves IsReading LeavesGroup
preserves_group = record {
  same = λ w. record { group = refl; logs = refl };
  both = λ a b c h k. record { group = k.group ∙ h.group; logs = k.logs ∙ h.logs };
  step = reading_leaves;
}

pub drained_leaves : (batch : ℕ) (w w2 : WorldState) (result : Result (Unit {0}) Refusal) → Follows w (drain_members batch w) result w2 → LeavesGroup w w2
drained_leaves batch w w2 result follows =
    preserved_following IsReading LeavesGroup preserves_group w w2 (drain_members batch w) result (drain_members_course batch w) (drain_members_events IsReading reading_open batch w) follows

-- ---- in a valid world they leave it valid, and what is committed stays committed
pub valid_outcome : (w : WorldState) (e : Event) → IsValidWorld w → IsValidWorld (outcome_of w e).after
valid_outcome w (event.Append key) v = valid_after w (event.Append key) _ _ v (inl (refl, refl))
valid_outcome w (event.AppendIn topic key) v = valid_after w (event.AppendIn topic key) _ _ v (inl (refl, refl))
valid_outcome w (event.Join name) v = valid_after w (event.Join name) _ _ v (inl (refl, refl))
valid_outcome w (event.JoinKept name) v = valid_after w (event.JoinKept name) _ _ v (inl (refl, refl))
valid_outcome w (event.TakeOver name) v = valid_after w (event.TakeOver name) _ _ v (inl (refl, refl))
valid_outcome w (event.Sync m) v = valid_after w (event.Sync m) _ _ v (inl (refl, refl))
valid_outcome w (event.Rejoin m) v = valid_after w (event.Rejoin m) _ _ v (inl (refl, refl))
valid_outcome w (event.Leave m) v = valid_after w (event.Leave m) _ _ v (inl (refl, refl))
valid_outcome w (event.Lose m) v = valid_after w (event.Lose m) _ _ v (inl (refl, refl))
valid_outcome w (event.Poll m p n) v = valid_after w (event.Poll m p n) _ _ v (refl, refl)
valid_outcome w (event.Send m p) v = valid_after w (event.Send m p) _ _ v (inl (refl, refl))
valid_outcome w (event.Deliver k) v = valid_after w (event.Deliver k) _ _ v (refl, refl)
valid_outcome w (event.DeliverUnanswered k) v = valid_after w (event.DeliverUnanswered k) _ _ v (refl, refl)

pub valid_all : (w : WorldState) (es : List Event) → IsValidWorld w → IsValidWorld (after_all w es)
valid_all w [] v = v
valid_all w (e ∷ es) v = valid_all (outcome_of w e).after es (valid_outcome w e v)

pub valid_course : (w : WorldState) (c : Course) → IsCourse w c → IsValidWorld w → IsValidWorld c.after
valid_course w c made v = subst IsValidWorld (sym made) (valid_all w c.events v)

pub valid_following : (w w2 : WorldState) (c : Course) (result : Result (Unit {0}) Refusal) → IsCourse w c → Follows w c result w2 → IsValidWorld w → IsValidWorld w2
valid_following w w2 c result made (inl replied) v = subst IsValidWorld (sym replied.1) (valid_course w c made v)
valid_following w w2 c result made (inr way) v = subst IsValidWorld (sym way.1.world_is) (valid_all w way.1.came v)

pub record IsFurther (w w2 : WorldState) : Type 0 where
  pub valid : IsValidWorld w2
  pub committed : (p : ℕ) → committed_at w.cluster.store p ≤ committed_at w2.cluster.store p

abbrev pub GoesFurther : WorldState → WorldState → Type 0
GoesFurther w w2 = IsValidWorld w → IsFurther w w2

same_store : (w w2 : WorldState) → IsValidWorld w2 → w2.cluster ≡ w.cluster → IsFurther w w2
same_store w w2 v same = record { valid = v; committed = λ p. omega (arith, ap (λ (s : ClusterState). committed_at s.store p) same) }

given_further : (s : ClusterState) (c : CommitTerms) (a : Result ℕ Refusal) → IsValidCluster s → cluster_commit_answer s c ≡ a → (p : ℕ) → committed_at s.store p ≤ committed_at (given s c a).store p
given_further s c (Ok end) v is p = (commit_leaves s c end 0 (committed_valid s c end v is)).committed p
given_further s c (Err why) v is p = omega arith

deliver_further : (w : WorldState) (o : Option CommitTerms) → IsValidWorld w → IsValidWorld (delivery w (delivered w) o).after → IsFurther w (delivery w (delivered w) o).after
deliver_further w None v v2 = record { valid = v2; committed = λ p. omega arith }
deliver_further w (Some c) v v2 =
    let a = cluster_commit_answer w.cluster c in
    let new = given w.cluster c a in
    let same : (delivered w c a).after.cluster ≡ new = on_cluster (with_cluster w new) c.member (λ x. answered_by x c.partition a) (consumer_of (with_cluster w new) c.member) in
    record { valid = v2; committed = λ p. omega (arith, given_further w.cluster c a v.cluster refl p, ap (λ (s : ClusterState). committed_at s.store p) same) }

reading_further : (w : WorldState) (e : Event) → IsReading e → GoesFurther w (outcome_of w e).after
reading_further w (event.Poll m p n) h v = same_store w _ (valid_outcome w (event.Poll m p n) v) (poll_cluster w m p n)
reading_further w (event.Send m p) h v = same_store w _ (valid_outcome w (event.Send m p) v) (send_cluster w m p)
reading_further w (event.Deliver k) h v = deliver_further w (commit_at w k) v (valid_outcome w (event.Deliver k) v)
reading_further w (event.Append key) h v = absurd h
reading_further w (event.AppendIn topic key) h v = absurd h
reading_further w (event.Join name) h v = absurd h
reading_further w (event.JoinKept name) h v = absurd h
reading_further w (event.TakeOver name) h v = absurd h
reading_further w (event.Sync m) h v = absurd h
reading_further w (event.Rejoin m) h v = absurd h
reading_further w (event.Leave m) h v = absurd h
reading_further w (event.Lose m) h v = absurd h
reading_further w (event.DeliverUnanswered k) h v = absurd h

pub preserves_further : Preserves IsReading GoesFurther
preserves_further = record {
  same = λ w v. record { valid = v; committed = λ p. omega arith };
  both = λ a b c h k v. let one = h v in let two = k one.valid in record { valid = two.valid; committed = λ p. omega (arith, one.committed p, two.committed p) };
  step = reading_further;
}

-- ---- a turn leaves who is present
abbrev pub SamePresent : WorldState → WorldState → Type 0
SamePresent w w2 = (n : ℕ) → is_present w2.cluster.group n ≡ is_present w.cluster.group n

present_by : (g g2 h : GroupState) → g2 ≡ h → ((n : ℕ) → is_present h n ≡ is_present g n) → (n : ℕ) → is_present g2 n ≡ is_present g n
present_by g g2 h e same n = ap (λ x. is_present x n) e ∙ same n

refused_cluster : (w : WorldState) (m : ℕ) (why : Refusal) → (refused_by_cluster w m why).after.cluster ≡ w.cluster
refused_cluster w m r.UnknownMember = on_cluster w m dropped (consumer_of w m)
refused_cluster w m why = refl

asked_preserves : (P : WorldState → Type 0) (w : WorldState) (f : ConsumerState → Outcome) → P w → ((c : ConsumerState) → P (f c).after) → (o : Option ConsumerState) → P (asked w o f).after
asked_preserves P w f here each None = here
asked_preserves P w f here each (Some c) = go (is_none c.member)
  where
    go : (b : Bool) → P (cond b (refused w r.OutOfGroup) (f c)).after
    go true = here
    go false = each c

sync_present : (w : WorldState) (m : ℕ) (c : ConsumerState) (a : Result LeaseTerms Refusal) → SamePresent w (sync_outcome w m a).after
sync_present w m c (Ok lease) =
    let w1 = with_cluster w (with_group w.cluster (synced_by w.cluster.group m)) in
    let same : (sync_outcome w m (Ok lease)).after.cluster ≡ w1.cluster = on_cluster w1 m (λ x. leased x lease) (consumer_of w1 m) in
    present_by w.cluster.group (sync_outcome w m (Ok lease)).after.cluster.group (synced_by w.cluster.group m) (ap (λ (s : ClusterState). s.group) same) (synced_present w.cluster.group m)
sync_present w m c (Err why) = present_by w.cluster.group _ w.cluster.group (ap (λ (s : ClusterState). s.group) (refused_cluster w m why)) (λ n. refl)

rejoin_present : (w : WorldState) (m : ℕ) (a : Result (Unit {0}) Refusal) → SamePresent w (rejoin_outcome w m a).after
rejoin_present w m (Ok u) =
    let w1 = with_cluster w (with_group w.cluster (rejoined_by w.cluster.group m)) in
    let same : (rejoin_outcome w m (Ok u)).after.cluster ≡ w1.cluster = on_cluster w1 m given_up (consumer_of w1 m) in
    present_by w.cluster.group (rejoin_outcome w m (Ok u)).after.cluster.group (rejoined_by w.cluster.group m) (ap (λ (s : ClusterState). s.group) same) (rejoined_present w.cluster.group m)
rejoin_present w m (Err why) = present_by w.cluster.group _ w.cluster.group (ap (λ (s : ClusterState). s.group) (refused_cluster w m why)) (λ n. refl)

turn_present : (w : WorldState) (e : Event) → IsOfTurn e → SamePresent w (outcome_of w e).after
turn_present w (event.Sync m) h = asked_preserves (SamePresent w) w (λ c. sync_outcome w m (cluster_sync_answer w.cluster m)) (λ n. refl) (λ c. sync_present w m c (cluster_sync_answer w.cluster m)) (consumer_of w m)
turn_present w (event.Rejoin m) h = asked_preserves (SamePresent w) w (λ c. rejoin_outcome w m (rejoin_answer w.cluster.group m c.generation c.assigned)) (λ n. refl) (λ c. rejoin_present w m (rejoin_answer w.cluster.group m c.generation c.assigned)) (consumer_of w m)
turn_present w (event.Poll m p n) h = λ k. ap (λ x. is_present x k) (reading_leaves w (event.Poll m p n) tt).group
turn_present w (event.Send m p) h = λ k. ap (λ x. is_present x k) (reading_leaves w (event.Send m p) tt).group
turn_present w (event.Deliver d) h = λ k. ap (λ x. is_present x k) (reading_leaves w (event.Deliver d) tt).group
turn_present w (event.Append key) h = absurd h
turn_present w (event.AppendIn topic key) h = absurd h
turn_present w (event.Join name) h = absurd h
turn_present w (event.JoinKept name) h = absurd h
turn_present w (event.TakeOver name) h = absurd h
turn_present w (event.Leave m) h = absurd h
turn_present w (event.Lose m) h = absurd h
turn_present w (event.DeliverUnanswered k) h = absurd h

pub preserves_present : Preserves IsOfTurn SamePresent
preserves_present = record {
  same = λ w n. refl;
  both = λ a b c h k n. k n ∙ h n;
  step = turn_present;
}
