-- Clusters stay valid, and what a step of the cluster leaves for consumers and mail.
use Rattle.std.proofs.Common.{◌≡◌, ◌∙◌, ◌+◌, ◌<◌, ◌≤◌, ◌⊎◌, ℕ, Bool, true, false, List, [], ◌∷◌, ◌++◌, Some, Result, Ok, Err, length, slice_index_or, refl, sym, ap, inl, inr, arith}
use Rattle.std.specs.Prelude.{nat_lt, is_some, slice_set, if◌then◌else◌}
use Rattle.std.specs.Result.{result_and}
use Rattle.std.proofs.Math.ListN.{length-set}
use Rattle.std.proofs.lemmas.Bool.Decides.{eqb_tells, nat_tests}
use Rattle.std.proofs.lemmas.List.{append-nil, get_or-set_other, get_or-set_same}
use Rattle.lane_words.specs.declared.limits.TheConstants.{LONGEST_KEY}
use Rattle.lane_words.specs.declared.Refusal.{Refusal}
use Rattle.lane_words.specs.declared.Refusal.TheVariants as r
use Rattle.bit_planes.specs.PartitionSet.{PartitionSet}
use Rattle.keyed_table.proofs.Raised.{length-raised}
use Rattle.partition_log.specs.Keys.{Keyed, id_of, is_interned}
use Rattle.partition_log.specs.Logs.{IsOfTopic, IsPlaceOf, PartitionLogs, is_full_for, log_at, place_in, with_record}
use Rattle.partition_log.proofs.Valid.{is_place, log-other, log-same, place-below, valid}
use Rattle.commit_store.specs.Commits.{Commits, Fits, commit_answer, committed_at, raised}
use Rattle.commit_store.proofs.Answered.{accepted}
use Rattle.commit_store.proofs.Exact.{commit-exact}
use Rattle.group_machine.specs.State.{GroupState, is_present, static_member}
use Rattle.group_machine.specs.Steps.{join_answer, joined_by, joined_static_by, leave_answer, left_by, rejoin_answer, rejoined_by, synced_by, take_over_answer, taken_over_by}
use Rattle.group_laws.specs.Others.{IsTakenOver, LeavesMember, LeavesOthers}
use Rattle.group_machine.specs.Cluster.{ClusterState, CommitTerms, IsValidCluster, IsValidLogs, append_answer, appended_to, cluster_commit_answer, committed_by, fence, with_group}
use Rattle.group_machine.proofs.ClusterLemmas.{append-valid, partition-below, regrouped}
use Rattle.group_laws.proofs.ResultLemmas as rebalance_result
use Rattle.group_machine.proofs.JoinLemmas.{accepted_join}
use Rattle.group_laws.proofs.OtherLemmas.{accepted_leave, join_leaves, leave_leaves, rejoin_leaves}
use Rattle.group_laws.proofs.StepLemmas.{join_valid, leave_valid, rejoin_valid}
use Rattle.group_machine.proofs.StepLemmas.{sync_valid}
use Rattle.group_laws.proofs.TakeOverLemmas.{handed_leaves, static_join_valid, static_join_leaves, take_over_valid, take_over_hands}

-- ---- steps of the group
pub joined_valid : (s : ClusterState) (name : List ℕ) (n : ℕ) → IsValidCluster s → join_answer s.group name ≡ Ok n → IsValidCluster (with_group s (joined_by s.group name))
joined_valid s name n v ok =
    regrouped s (joined_by s.group name) v (join_valid s.group name v.group (accepted_join s.group name n ok).0) (join_leaves s.group name n v.group ok).partitions

pub joined_static_valid : (s : ClusterState) (name : List ℕ) (n : ℕ) → IsValidCluster s → join_answer s.group name ≡ Ok n → IsValidCluster (with_group s (joined_static_by s.group name))
joined_static_valid s name n v ok =
    regrouped s (joined_static_by s.group name) v (static_join_valid s.group name v.group (accepted_join s.group name n ok).0) (static_join_leaves s.group name n v.group ok).partitions

pub taken_over_valid : (s : ClusterState) (name : List ℕ) (m n : ℕ) → IsValidCluster s → static_member s.group name ≡ Some m → take_over_answer s.group name ≡ Ok n → IsValidCluster (with_group s (taken_over_by s.group name))
taken_over_valid s name m n v is_static ok =
    regrouped s (taken_over_by s.group name) v (take_over_valid s.group name m n v.group is_static ok) (take_over_hands s.group name m n is_static ok).partitions

pub rejoined_valid : (s : ClusterState) (m generation : ℕ) (claim : PartitionSet) → IsValidCluster s → rejoin_answer s.group m generation claim ≡ Ok tt → IsValidCluster (with_group s (rejoined_by s.group m))
rejoined_valid s m generation claim v ok =
    regrouped s (rejoined_by s.group m) v (rejoin_valid s.group m v.group (ap is_some (rebalance_result.accepted s.group m generation claim ok).1)) (rejoin_leaves s.group m generation claim v.group ok).partitions

pub left_valid : (s : ClusterState) (m : ℕ) → IsValidCluster s → leave_answer s.group m ≡ Ok tt → IsValidCluster (with_group s (left_by s.group m))
left_valid s m v ok =
    regrouped s (left_by s.group m) v (leave_valid s.group m v.group (accepted_leave (is_present s.group m) _ ok)) (leave_leaves s.group m v.group ok).partitions

pub synced_valid : (s : ClusterState) (m : ℕ) → IsValidCluster s → IsValidCluster (with_group s (synced_by s.group m))
synced_valid s m v = regrouped s (synced_by s.group m) v (sync_valid s.group m v.group) refl

-- ---- appends
accepted_append : (long full : Bool) (a b : ℕ × ℕ) → ◌≡◌ {A = Result (ℕ × ℕ) Refusal} (if long then Err r.KeyTooLong else if full then Err r.LogFull else Ok a) (Ok b) → (long ≡ false) × (full ≡ false)
accepted_append true full a b e = absurd (cc e)
accepted_append false true a b e = absurd (cc e)
accepted_append false false a b e = (refl, refl)

not_longer : (most n : ℕ) → nat_lt most n ≡ false → n ≤ most
not_longer most n e = grind (arith, nat_tests)

pub appended_valid : (s : ClusterState) (keyed : Keyed) (at : ℕ × ℕ) → IsValidCluster s → IsOfTopic s.logs keyed → append_answer s.logs keyed ≡ Ok at → IsValidCluster (appended_to s keyed)
appended_valid s keyed at v topic ok =
    let key = keyed.1 in
    let place = place_in s.logs keyed in
    let goes : IsPlaceOf s.logs key place = (keyed.0, topic, refl) in
    let passed = accepted_append (nat_lt LONGEST_KEY (length key)) (is_full_for s.logs place key) (place, length (log_at s.logs place)) at ok in
    append-valid s place key v goes (valid s.logs place key v.logs goes (place-below s.logs keyed v.logs topic) (not_longer LONGEST_KEY (length key) passed.0) passed.1)

-- ---- commits
passed_fence : (a : Result (Unit {0}) Refusal) (b : Result ℕ Refusal) (end : ℕ) → result_and a b ≡ Ok end → (a ≡ Ok tt) × (b ≡ Ok end)
passed_fence (Ok u) b end e = (refl, e)
passed_fence (Err why) b end e = absurd (cc e)

pub record IsAccepted (s : ClusterState) (c : CommitTerms) (end : ℕ) : Type 0 where
  pub fits : Fits s.store s.logs c.partition c.from c.ids
  pub end_is : end ≡ c.from + length c.ids
  pub below : c.partition < length s.store.offsets
  pub valid : IsValidCluster (committed_by s c)

pub committed_valid : (s : ClusterState) (c : CommitTerms) (end : ℕ) → IsValidCluster s → cluster_commit_answer s c ≡ Ok end → IsAccepted s c end
unfolding raised
committed_valid s c end v ok =
    let passed = passed_fence (fence s.group c) (commit_answer s.store s.logs c.partition c.from c.ids) end ok in
    let below = partition-below s c v passed.0 in
    let taken = accepted s.store s.logs c.partition c.from end c.ids (sym passed.1) in
    record {
      fits = taken.0;
      end_is = taken.1;
      below = below.0;
      valid = record {
        group = v.group;
        logs = v.logs;
        exact = commit-exact s.store s.logs c.partition c.from c.ids v.logs below.1 below.0 (omega (arith, v.a_counter_each)) taken.0 v.exact;
        logs_partitions = v.logs_partitions;
        store_partitions = length-set s.store.offsets c.partition _ ∙ v.store_partitions;
        a_counter_each = length-raised 0 s.store.counts c.ids ∙ v.a_counter_each;
      };
    }

-- ---- what a step of the cluster leaves of consumers and mail: the members that are still present,
-- but for the one that made the step
pub record Leaves (s new : ClusterState) (about : ℕ) : Type 0 where
  pub valid : IsValidCluster new
  pub partitions : new.group.partitions ≡ s.group.partitions
  pub others : (n : ℕ) → (n ≡ about → ⊥) → is_present new.group n ≡ true → LeavesMember s.group new.group n
  pub committed : (p : ℕ) → committed_at s.store p ≤ committed_at new.store p
  pub logs : (p : ℕ) → (more : List ℕ) × (log_at new.logs p ≡ log_at s.logs p ++ more)

same_member : (g : GroupState) (n : ℕ) → LeavesMember g g n
same_member g n = record {
  present = refl;
  granted = λ q h. h;
  either = inl (record { generation = refl; joined = refl; synced = refl; granted = refl; assigned = refl });
}

same_log : (xs : List ℕ) → (more : List ℕ) × (xs ≡ xs ++ more)
same_log xs = ([], sym (append-nil xs))

pub leaves_by_group : (s : ClusterState) (g : GroupState) (about : ℕ) → IsValidCluster (with_group s g) → LeavesOthers s.group g about → Leaves s (with_group s g) about
leaves_by_group s g about valid left = record {
  valid = valid;
  partitions = left.partitions;
  others = λ n ne here. left.others n ne;
  committed = λ p. omega arith;
  logs = λ p. same_log (log_at s.logs p);
}

pub is_it : (m n : ℕ) → (n ≡ m) ⊎ (n ≡ m → ⊥)
is_it m n =
    elim (eqb_tells n m) [
      | inl t ↦ inl t.1
      | inr f ↦ inr (λ e. f.1 e)
    ]

pub leaves_handed_on : (s : ClusterState) (g : GroupState) (m n : ℕ) → IsValidCluster (with_group s g) → IsTakenOver s.group g m n → Leaves s (with_group s g) n
leaves_handed_on s g m n valid on = record {
  valid = valid;
  partitions = on.partitions;
  others = λ k ne here. elim (is_it m k) [
    | inl old ↦ absurd (let gone : is_present g k ≡ false = ap (is_present g) old ∙ on.seat.gone in cc)
    | inr other ↦ handed_leaves s.group g m n on k other ne
  ];
  committed = λ p. omega arith;
  logs = λ p. same_log (log_at s.logs p);
}

pub nothing_leaves : (s : ClusterState) (about : ℕ) → IsValidCluster s → Leaves s s about
nothing_leaves s about valid = record {
  valid = valid;
  partitions = refl;
  others = λ n ne here. same_member s.group n;
  committed = λ p. omega arith;
  logs = λ p. same_log (log_at s.logs p);
}

offset_rises : (xs : List ℕ) (i n j : ℕ) → i < length xs → slice_index_or xs j 0 ≤ slice_index_or (slice_set xs i (slice_index_or xs i 0 + n)) j 0
offset_rises xs i n j lt =
    elim (is_place j i) [
      | inl same ↦ rw same (omega (arith, get_or-set_same xs i (slice_index_or xs i 0 + n) 0 lt))
      | inr other ↦ omega (arith, get_or-set_other xs i j (slice_index_or xs i 0 + n) 0 other)
    ]

pub commit_leaves : (s : ClusterState) (c : CommitTerms) (end about : ℕ) → IsAccepted s c end → Leaves s (committed_by s c) about
commit_leaves s c end about a = record {
  valid = a.valid;
  partitions = refl;
  others = λ n ne here. same_member s.group n;
  committed = λ p. offset_rises s.store.offsets c.partition (length c.ids) p a.below;
  logs = λ p. same_log (log_at s.logs p);
}

log_grows : (l : PartitionLogs) (keyed : Keyed) (p : ℕ) → IsValidLogs l → IsOfTopic l keyed → (more : List ℕ) × (log_at (with_record l keyed) p ≡ log_at l p ++ more)
log_grows l keyed p v topic =
    let place = place_in l keyed in
    let key = keyed.1 in
    elim (is_place p place) [
      | inl same ↦ (id_of l.keys key ∷ [], rw same (log-same l place key (omega (arith, place-below l keyed v topic, v.a_log_each))))
      | inr other ↦ ([], log-other l place key p other ∙ sym (append-nil (log_at l p)))
    ]

offsets_same : (b : Bool) (store : Commits) → (if b then store else (record store { counts = store.counts ++ 0 ∷ [] })).offsets ≡ store.offsets
offsets_same true store = refl
offsets_same false store = refl

pub append_leaves : (s : ClusterState) (keyed : Keyed) (at : ℕ × ℕ) (about : ℕ) → IsValidCluster s → IsOfTopic s.logs keyed → append_answer s.logs keyed ≡ Ok at → Leaves s (appended_to s keyed) about
append_leaves s keyed at about v topic ok = record {
  valid = appended_valid s keyed at v topic ok;
  partitions = refl;
  others = λ n ne here. same_member s.group n;
  committed = λ p. omega (arith, ap (λ (os : List ℕ). slice_index_or os p 0) (offsets_same (is_interned s.logs.keys keyed.1) s.store));
  logs = λ p. log_grows s.logs keyed p v.logs topic;
}
