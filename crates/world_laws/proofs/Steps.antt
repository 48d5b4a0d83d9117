-- A relation that each step of the cluster keeps is kept by each event, and by any list of events.
-- It relates the commits that were accepted, the cluster before, and the cluster after.
use Rattle.std.proofs.Common.{◌≡◌, ℕ, suc, Bool, true, false, List, [], ◌∷◌, ◌++◌, Option, Some, None, Result, Ok, Err, length, refl, sym, subst, arith}
use Rattle.std.specs.Prelude.{All, is_none, nat_lt, if◌then◌else◌}
use Rattle.lane_words.specs.declared.Refusal.{Refusal}
use Rattle.lane_words.specs.declared.Refusal.TheVariants as r
use Rattle.bit_planes.specs.PartitionSet.{PartitionSet}
use Rattle.partition_log.specs.Keys.{Keyed, of_first}
use Rattle.partition_log.specs.Logs.{IsOfTopic}
use Rattle.partition_log.proofs.Stored.{first-topic}
use Rattle.group_machine.specs.Cluster.{ClusterState, CommitTerms, IsValidCluster, LeaseTerms, append_answer, appended_to, cluster_commit_answer, cluster_sync_answer, committed_by, with_group}
use Rattle.group_machine.specs.State.{GroupState}
use Rattle.group_machine.specs.Steps.{join_answer, joined_by, joined_static_by, leave_answer, left_by, rejoin_answer, rejoined_by, synced_by, take_over_answer, taken_over_by}
use Rattle.consumer.specs.Consumer.{ConsumerState, answered_by, given_up, leased}
use Rattle.world.specs.declared.event.Event.{Event}
use Rattle.world.specs.declared.event.Event.TheVariants as event
use Rattle.world.specs.declared.event.Reply.{Reply}
use Rattle.world.specs.declared.event.Reply.TheVariants as reply
use Rattle.world.specs.Courses.{after_all, outcome_of}
use Rattle.world.specs.Steps.{Outcome, append_event, append_in_event, append_outcome, asked, both, delivered, delivered_unanswered, delivery, dropped, entry_outcome, given, leave_outcome, lose_outcome, refused, refused_by_cluster, rejoin_outcome, sync_outcome}
use Rattle.world.specs.Valid.{IsValidWorld}
use Rattle.world.specs.World.{WorldState, commit_at, consumer_of, with_cluster}
use Rattle.world.proofs.Preserved.{poll_cluster, send_cluster, valid_outcome}
use Rattle.world.proofs.Events.{of_topic}
use Rattle.world.proofs.Stays.{on_cluster}
use Rattle.world_laws.specs.Counting.{accepted_by, accepted_in, accepted_of, if_accepted}
use Rattle.world_laws.specs.Membership.{KeepsMembers}

-- ---- the steps of a cluster by which no member joins or leaves, and the others
pub record HoldsOfSteps (Q : List CommitTerms → ClusterState → ClusterState → Type 0) : Type 0 where
  pub same : (s : ClusterState) → Q [] s s
  pub appended : (s : ClusterState) (keyed : Keyed) (at : ℕ × ℕ) → IsValidCluster s → IsOfTopic s.logs keyed → append_answer s.logs keyed ≡ Ok at → Q [] s (appended_to s keyed)
  pub taken_over : (s : ClusterState) (name : List ℕ) (n : ℕ) → IsValidCluster s → take_over_answer s.group name ≡ Ok n → Q [] s (with_group s (taken_over_by s.group name))
  pub synced : (s : ClusterState) (m : ℕ) → IsValidCluster s → Q [] s (with_group s (synced_by s.group m))
  pub rejoined : (s : ClusterState) (m generation : ℕ) (claim : PartitionSet) → IsValidCluster s → rejoin_answer s.group m generation claim ≡ Ok tt → Q [] s (with_group s (rejoined_by s.group m))
  pub committed : (s : ClusterState) (c : CommitTerms) (end : ℕ) → IsValidCluster s → cluster_commit_answer s c ≡ Ok end → Q (c ∷ []) s (committed_by s c)

pub record HoldsOfMembers (Q : List CommitTerms → ClusterState → ClusterState → Type 0) : Type 0 where
  pub joined : (s : ClusterState) (name : List ℕ) (n : ℕ) → IsValidCluster s → join_answer s.group name ≡ Ok n → Q [] s (with_group s (joined_by s.group name))
  pub joined_static : (s : ClusterState) (name : List ℕ) (n : ℕ) → IsValidCluster s → join_answer s.group name ≡ Ok n → Q [] s (with_group s (joined_static_by s.group name))
  pub left : (s : ClusterState) (m : ℕ) → IsValidCluster s → leave_answer s.group m ≡ Ok tt → Q [] s (with_group s (left_by s.group m))

pub refused_cluster : (w : WorldState) (m : ℕ) (why : Refusal) → (refused_by_cluster w m why).after.cluster ≡ w.cluster
refused_cluster w m r.UnknownMember = on_cluster w m dropped (consumer_of w m)
refused_cluster w m why = refl

-- the cluster of a world in which a consumer changes too
pub both_cluster : (w : WorldState) (m : ℕ) (s : ClusterState) (f : ConsumerState → ConsumerState) → (both w m s f).cluster ≡ s
both_cluster w m s f = on_cluster (with_cluster w s) m f (consumer_of (with_cluster w s) m)

-- ---- each event
append_holds : (Q : List CommitTerms → ClusterState → ClusterState → Type 0) → HoldsOfSteps Q → (w : WorldState) (keyed : Keyed) → IsValidCluster w.cluster → IsOfTopic w.cluster.logs keyed → Q [] w.cluster (append_event w keyed).after.cluster
append_holds Q h w keyed v topic = go (append_answer w.cluster.logs keyed) refl
  where
    go : (a : Result (ℕ × ℕ) Refusal) → append_answer w.cluster.logs keyed ≡ a → Q [] w.cluster (append_outcome w keyed a).after.cluster
    go (Ok at) is = h.appended w.cluster keyed at v topic is
    go (Err why) is = h.same w.cluster

append_in_holds : (Q : List CommitTerms → ClusterState → ClusterState → Type 0) → HoldsOfSteps Q → (w : WorldState) (keyed : Keyed) → IsValidCluster w.cluster → Q [] w.cluster (append_in_event w keyed).after.cluster
append_in_holds Q h w keyed v = go (nat_lt keyed.0 (length w.cluster.logs.counts)) refl
  where
    go : (b : Bool) → nat_lt keyed.0 (length w.cluster.logs.counts) ≡ b → (let o : Outcome = if b then append_event w keyed else refused w (r.NoSuchTopic 0) in Q [] w.cluster o.after.cluster)
    go true is = append_holds Q h w keyed v (of_topic keyed.0 (length w.cluster.logs.counts) is)
    go false is = h.same w.cluster

-- a member that enters, if the cluster lets it
entry_holds : (Q : List CommitTerms → ClusterState → ClusterState → Type 0) → HoldsOfSteps Q → (replied : ℕ → Reply) (group : GroupState) (w : WorldState) (a : Result ℕ Refusal) → ((n : ℕ) → a ≡ Ok n → Q [] w.cluster (with_group w.cluster group)) → Q [] w.cluster (entry_outcome replied group w a).after.cluster
entry_holds Q h replied group w (Ok n) entered = entered n refl
entry_holds Q h replied group w (Err why) entered = h.same w.cluster

refusal_holds : (Q : List CommitTerms → ClusterState → ClusterState → Type 0) → HoldsOfSteps Q → (w : WorldState) (m : ℕ) (why : Refusal) → Q [] w.cluster (refused_by_cluster w m why).after.cluster
refusal_holds Q h w m why = subst (Q [] w.cluster) (sym (refused_cluster w m why)) (h.same w.cluster)

both_holds : (Q : List CommitTerms → ClusterState → ClusterState → Type 0) (l : List CommitTerms) (w : WorldState) (m : ℕ) (s : ClusterState) (f : ConsumerState → ConsumerState) → Q l w.cluster s → Q l w.cluster (both w m s f).cluster
both_holds Q l w m s f q = subst (Q l w.cluster) (sym (both_cluster w m s f)) q

asked_holds : (Q : List CommitTerms → ClusterState → ClusterState → Type 0) → HoldsOfSteps Q → (w : WorldState) (f : ConsumerState → Outcome) → ((c : ConsumerState) → Q [] w.cluster (f c).after.cluster) → (o : Option ConsumerState) → Q [] w.cluster (asked w o f).after.cluster
asked_holds Q h w f each None = h.same w.cluster
asked_holds Q h w f each (Some c) = go (is_none c.member)
  where
    go : (b : Bool) → (let o : Outcome = if b then refused w r.OutOfGroup else f c in Q [] w.cluster o.after.cluster)
    go true = h.same w.cluster
    go false = each c

sync_holds : (Q : List CommitTerms → ClusterState → ClusterState → Type 0) → HoldsOfSteps Q → (w : WorldState) (m : ℕ) → IsValidCluster w.cluster → (a : Result LeaseTerms Refusal) → Q [] w.cluster (sync_outcome w m a).after.cluster
sync_holds Q h w m v (Ok lease) = both_holds Q [] w m (with_group w.cluster (synced_by w.cluster.group m)) (λ c. leased c lease) (h.synced w.cluster m v)
sync_holds Q h w m v (Err why) = refusal_holds Q h w m why

rejoin_holds : (Q : List CommitTerms → ClusterState → ClusterState → Type 0) → HoldsOfSteps Q → (w : WorldState) (m generation : ℕ) (claim : PartitionSet) → IsValidCluster w.cluster → (a : Result (Unit {0}) Refusal) → rejoin_answer w.cluster.group m generation claim ≡ a → Q [] w.cluster (rejoin_outcome w m a).after.cluster
rejoin_holds Q h w m generation claim v (Ok u) is = both_holds Q [] w m (with_group w.cluster (rejoined_by w.cluster.group m)) given_up (h.rejoined w.cluster m generation claim v is)
rejoin_holds Q h w m generation claim v (Err why) is = refusal_holds Q h w m why

given_holds : (Q : List CommitTerms → ClusterState → ClusterState → Type 0) → HoldsOfSteps Q → (s : ClusterState) (c : CommitTerms) → IsValidCluster s → (a : Result ℕ Refusal) → cluster_commit_answer s c ≡ a → Q (if_accepted c a) s (given s c a)
given_holds Q h s c v (Ok end) is = h.committed s c end v is
given_holds Q h s c v (Err why) is = h.same s

delivery_holds : (Q : List CommitTerms → ClusterState → ClusterState → Type 0) → HoldsOfSteps Q → (w : WorldState) (f : CommitTerms → Result ℕ Refusal → Outcome) → ((c : CommitTerms) → Q (if_accepted c (cluster_commit_answer w.cluster c)) w.cluster (f c (cluster_commit_answer w.cluster c)).after.cluster) → (o : Option CommitTerms) → Q (accepted_of w o) w.cluster (delivery w f o).after.cluster
delivery_holds Q h w f each None = h.same w.cluster
delivery_holds Q h w f each (Some c) = each c

pub kept : (Q : List CommitTerms → ClusterState → ClusterState → Type 0) → HoldsOfSteps Q → (w : WorldState) (e : Event) → IsValidWorld w → KeepsMembers e → Q (accepted_by w e) w.cluster (outcome_of w e).after.cluster
kept Q h w (event.Append key) v k = append_holds Q h w (of_first key.now) v.cluster (first-topic w.cluster.logs key.now v.cluster.logs)
kept Q h w (event.AppendIn topic key) v k = append_in_holds Q h w (topic, key.now) v.cluster
kept Q h w (event.Join name) v k = absurd k
kept Q h w (event.JoinKept name) v k = absurd k
kept Q h w (event.TakeOver name) v k = entry_holds Q h (λ m. reply.TakenOver m) (taken_over_by w.cluster.group name.now) w (take_over_answer w.cluster.group name.now) (λ n is. h.taken_over w.cluster name.now n v.cluster is)
kept Q h w (event.Sync m) v k = asked_holds Q h w (λ c. sync_outcome w m (cluster_sync_answer w.cluster m)) (λ c. sync_holds Q h w m v.cluster (cluster_sync_answer w.cluster m)) (consumer_of w m)
kept Q h w (event.Rejoin m) v k = asked_holds Q h w (λ c. rejoin_outcome w m (rejoin_answer w.cluster.group m c.generation c.assigned)) (λ c. rejoin_holds Q h w m c.generation c.assigned v.cluster (rejoin_answer w.cluster.group m c.generation c.assigned) refl) (consumer_of w m)
kept Q h w (event.Leave m) v k = absurd k
kept Q h w (event.Lose m) v k = absurd k
kept Q h w (event.Poll m p n) v k = subst (Q [] w.cluster) (sym (poll_cluster w m p n)) (h.same w.cluster)
kept Q h w (event.Send m p) v k = subst (Q [] w.cluster) (sym (send_cluster w m p)) (h.same w.cluster)
kept Q h w (event.Deliver n) v k =
    delivery_holds Q h w (delivered w) (λ c. let a = cluster_commit_answer w.cluster c in both_holds Q (if_accepted c a) w c.member (given w.cluster c a) (λ x. answered_by x c.partition a) (given_holds Q h w.cluster c v.cluster a refl)) (commit_at w n)
kept Q h w (event.DeliverUnanswered n) v k =
    delivery_holds Q h w (delivered_unanswered w) (λ c. given_holds Q h w.cluster c v.cluster (cluster_commit_answer w.cluster c) refl) (commit_at w n)

leave_holds : (Q : List CommitTerms → ClusterState → ClusterState → Type 0) → HoldsOfSteps Q → HoldsOfMembers Q → (w : WorldState) (m : ℕ) → IsValidCluster w.cluster → (a : Result (Unit {0}) Refusal) → leave_answer w.cluster.group m ≡ a → Q [] w.cluster (leave_outcome w m a).after.cluster
leave_holds Q h g w m v (Ok u) is = both_holds Q [] w m (with_group w.cluster (left_by w.cluster.group m)) dropped (g.left w.cluster m v is)
leave_holds Q h g w m v (Err why) is = refusal_holds Q h w m why

lose_holds : (Q : List CommitTerms → ClusterState → ClusterState → Type 0) → HoldsOfSteps Q → HoldsOfMembers Q → (w : WorldState) (m : ℕ) → IsValidCluster w.cluster → (a : Result (Unit {0}) Refusal) → leave_answer w.cluster.group m ≡ a → Q [] w.cluster (lose_outcome w m a).after.cluster
lose_holds Q h g w m v (Ok u) is = g.left w.cluster m v is
lose_holds Q h g w m v (Err why) is = h.same w.cluster

pub holds : (Q : List CommitTerms → ClusterState → ClusterState → Type 0) → HoldsOfSteps Q → HoldsOfMembers Q → (w : WorldState) (e : Event) → IsValidWorld w → Q (accepted_by w e) w.cluster (outcome_of w e).after.cluster
holds Q h g w (event.Join name) v = entry_holds Q h (λ m. reply.Joined m) (joined_by w.cluster.group name.now) w (join_answer w.cluster.group name.now) (λ n is. g.joined w.cluster name.now n v.cluster is)
holds Q h g w (event.JoinKept name) v = entry_holds Q h (λ m. reply.Joined m) (joined_static_by w.cluster.group name.now) w (join_answer w.cluster.group name.now) (λ n is. g.joined_static w.cluster name.now n v.cluster is)
holds Q h g w (event.Leave m) v = asked_holds Q h w (λ c. leave_outcome w m (leave_answer w.cluster.group m)) (λ c. leave_holds Q h g w m v.cluster (leave_answer w.cluster.group m) refl) (consumer_of w m)
holds Q h g w (event.Lose m) v = lose_holds Q h g w m v.cluster (leave_answer w.cluster.group m) refl
holds Q h g w (event.Append key) v = kept Q h w (event.Append key) v tt
holds Q h g w (event.AppendIn topic key) v = kept Q h w (event.AppendIn topic key) v tt
holds Q h g w (event.TakeOver name) v = kept Q h w (event.TakeOver name) v tt
holds Q h g w (event.Sync m) v = kept Q h w (event.Sync m) v tt
holds Q h g w (event.Rejoin m) v = kept Q h w (event.Rejoin m) v tt
holds Q h g w (event.Poll m p n) v = kept Q h w (event.Poll m p n) v tt
holds Q h g w (event.Send m p) v = kept Q h w (event.Send m p) v tt
holds Q h g w (event.Deliver k) v = kept Q h w (event.Deliver k) v tt
holds Q h g w (event.DeliverUnanswered k) v = kept Q h w (event.DeliverUnanswered k) v tt

-- ---- any list of events, for a relation that goes on
abbrev pub GoesOn : (List CommitTerms → ClusterState → ClusterState → Type 0) → Type 0
GoesOn Q = (xs ys : List CommitTerms) (a b c : ClusterState) → Q xs a b → Q ys b c → Q (xs ++ ys) a c

pub holds_all : (Q : List CommitTerms → ClusterState → ClusterState → Type 0) → GoesOn Q → HoldsOfSteps Q → HoldsOfMembers Q → (w : WorldState) (es : List Event) → IsValidWorld w → Q (accepted_in w es) w.cluster (after_all w es).cluster
holds_all Q on h g w [] v = h.same w.cluster
holds_all Q on h g w (e ∷ es) v =
    let next = (outcome_of w e).after in
    on (accepted_by w e) (accepted_in next es) w.cluster next.cluster (after_all next es).cluster (holds Q h g w e v) (holds_all Q on h g next es (valid_outcome w e v))

pub kept_all : (Q : List CommitTerms → ClusterState → ClusterState → Type 0) → GoesOn Q → HoldsOfSteps Q → (w : WorldState) (es : List Event) → IsValidWorld w → All KeepsMembers es → Q (accepted_in w es) w.cluster (after_all w es).cluster
kept_all Q on h w [] v all = h.same w.cluster
kept_all Q on h w (e ∷ es) v all =
    let next = (outcome_of w e).after in
    on (accepted_by w e) (accepted_in next es) w.cluster next.cluster (after_all next es).cluster (kept Q h w e v (all 0 e (omega arith))) (kept_all Q on h next es (valid_outcome w e v) (λ k d lt. all (suc k) d (omega (arith, lt))))
