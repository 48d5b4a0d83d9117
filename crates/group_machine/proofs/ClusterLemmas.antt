-- A cluster stays consistent.
use Rattle.std.proofs.Common.{◌≡◌, ◌∙◌, ◌+◌, ◌<◌, ◌≤◌, ℕ, Bool, true, false, List, [], ◌∷◌, ◌++◌, length, sym, ap, refl, arith, inl, inr, length-append, replicate, subst}
use Rattle.std.specs.Prelude.{Option, Some, None, Result, Ok, Err, OnOk, OnErr, if◌then◌else◌, ◌==◌, not}
use Rattle.std.proofs.Math.ListN.{length-set}
use Rattle.std.proofs.lemmas.Bool.Decides.{eqb_tells}
use Rattle.lane_words.specs.declared.Refusal.{Refusal}
use Rattle.lane_words.specs.declared.Refusal.TheVariants as r
use Rattle.bit_planes.specs.PartitionSet.{is_in, partitions_of}
use Rattle.bit_planes.proofs.Sets.{in_below, partitions_empty}
use Rattle.keyed_table.proofs.Raised.{length-raised}
use Rattle.partition_log.specs.Keys.{distinct, with_key}
use Rattle.commit_store.specs.Commits.{raised}
use Rattle.commit_store.proofs.Exact.{append-exact, counter-exact}
use Rattle.group_machine.specs.declared.group.Seat.{Seat}
use Rattle.group_machine.specs.State.{GroupState, assigned_of, granted_of, is_present, member_of, opening, seat_assigned}
use Rattle.group_machine.specs.Valid.{AreConsistentSeats, IsConsistentSeat, IsValidGroup}
use Rattle.group_machine.specs.Completion.{complete, completed, is_ready}
use Rattle.group_machine.specs.Cluster.{IsValidLogs, AreLogsOf, ClusterState, CommitTerms, Commits, IsValidCluster, IsExact, IsPlaceOf, Key, PartitionLogs, appended_at, fence, is_interned, with_commit, with_group, with_record_at, without_capacity}
use Rattle.group_machine.proofs.GroupLemmas.{granted_over}
use Rattle.group_machine.proofs.StepLemmas.{length_replicate, opening_valid}

either : (b : Bool) (g h : GroupState) (p : ℕ) → g.partitions ≡ p → h.partitions ≡ p → (if b then g else h).partitions ≡ p
either true g h p same other = same
either false g h p same other = other

completed_partitions : (g : GroupState) → (completed g).partitions ≡ g.partitions
completed_partitions g = either (is_ready g) (complete g) g g.partitions refl refl

pub stepped_partitions : {A : Type 0} (old new before : GroupState) (answer : Result A Refusal) → OnOk answer (new ≡ completed before) → OnErr answer (new ≡ old) → before.partitions ≡ old.partitions → new.partitions ≡ old.partitions
stepped_partitions old new before (Ok v) ok err same = ap (λ g. g.partitions) ok ∙ completed_partitions before ∙ same
stepped_partitions old new before (Err why) ok err same = ap (λ g. g.partitions) err

pub regrouped : (s : ClusterState) (g : GroupState) → IsValidCluster s → IsValidGroup g → g.partitions ≡ s.group.partitions → IsValidCluster (with_group s g)
regrouped s g c group same = record {
  group = group;
  logs = c.logs;
  exact = record { within = c.exact.within; counted = c.exact.counted; spare = c.exact.spare };
  logs_partitions = c.logs_partitions ∙ sym same;
  store_partitions = c.store_partitions ∙ sym same;
  a_counter_each = c.a_counter_each;
}

counters-at : (b : Bool) (l : PartitionLogs) (key : Key) (store : Commits) → is_interned l.keys key ≡ b → length store.counts ≡ length l.keys
    → length (if b then store else (record store { counts = store.counts ++ 0 ∷ [] })).counts ≡ length (if b then l.keys else l.keys ++ key ∷ [])
counters-at true l key store e same = same
counters-at false l key store e same = length-append store.counts (0 ∷ []) ∙ ap (λ n. n + 1) same ∙ sym (length-append l.keys (key ∷ []))

exact-at : (b : Bool) (l : PartitionLogs) (store : Commits) → IsExact store l → IsExact (if b then store else (record store { counts = store.counts ++ 0 ∷ [] })) l
exact-at true l store e = e
exact-at false l store e = counter-exact store store.capacity l e

offsets-at : (b : Bool) (store : Commits) → length (if b then store else (record store { counts = store.counts ++ 0 ∷ [] })).offsets ≡ length store.offsets
offsets-at true store = refl
offsets-at false store = refl

pub append-valid : (s : ClusterState) (at : ℕ) (key : Key) → IsValidCluster s → IsPlaceOf s.logs key at → IsValidLogs (with_record_at s.logs at key) → IsValidCluster (appended_at s at key)
append-valid s at key c goes logs = record {
  group = c.group;
  logs = logs;
  exact = exact-at (is_interned s.logs.keys key) (with_record_at s.logs at key) s.store (append-exact s.store s.logs at key c.logs goes c.exact);
  logs_partitions = c.logs_partitions;
  store_partitions = offsets-at (is_interned s.logs.keys key) s.store ∙ c.store_partitions;
  a_counter_each = counters-at (is_interned s.logs.keys key) s.logs key s.store refl c.a_counter_each;
}

interned-at : (b : Bool) (l : PartitionLogs) (key : Key) → length (if b then l.keys else l.keys ++ key ∷ []) ≤ length l.keys → b ≡ true
interned-at true l key few = refl
interned-at false l key few = absurd (omega (arith, length-append l.keys (key ∷ []), few))

pub interned-appended : (s : ClusterState) (at : ℕ) (key : Key) (logs : PartitionLogs) (store : Commits) → logs ≡ with_record_at s.logs at key → store ≡ s.store → length (with_key s.logs.keys key) ≤ length s.logs.keys
    → ◌≡◌ {A = ClusterState} (record { group = s.group; logs = logs; store = store }) (appended_at s at key)
interned-appended s at key logs store ls ss few =
    let interned : is_interned s.logs.keys key ≡ true = interned-at (is_interned s.logs.keys key) s.logs key few in
    rw (ls, ss, interned) refl

passes : (present current granted : Bool)
    → ◌≡◌ {A = Result (Unit {0}) Refusal} (if not present then Err r.UnknownMember else if not current then Err r.StaleGeneration else if not granted then Err r.NotOwner else Ok tt) (Ok tt)
    → (present ≡ true) × (current ≡ true) × (granted ≡ true)
passes false current granted e = absurd (cc e)
passes true false granted e = absurd (cc e)
passes true true false e = absurd (cc e)
passes true true true e = (refl, refl, refl)

is_current : (m n : ℕ) → (m == n) ≡ true → m ≡ n
is_current m n e =
    elim (eqb_tells m n) [
      | inl t ↦ t.1
      | inr f ↦ absurd (cc (f.0, e))
    ]

pub let_through : (g : GroupState) (c : CommitTerms) → fence g c ≡ Ok tt → (is_present g c.member ≡ true) × (c.generation ≡ g.generation) × (is_in (granted_of g c.member) c.partition ≡ true)
let_through g c e =
    let tests = passes (is_present g c.member) (c.generation == g.generation) (is_in (granted_of g c.member) c.partition) e in
    (tests.0, is_current c.generation g.generation tests.1, tests.2)

pub partition-below : (s : ClusterState) (c : CommitTerms) → IsValidCluster s → fence s.group c ≡ Ok tt → (c.partition < length s.store.offsets) × (c.partition < s.logs.partitions)
partition-below s c k e =
    let below = in_below (granted_of s.group c.member) c.partition (let_through s.group c e).2 in
    let over = granted_over s.group k.group.consistent c.member in
    (omega (arith, below, over, k.store_partitions), omega (arith, below, over, k.logs_partitions))

store-lengths : {A : Type 0} (old new : Commits) (p : ℕ) (ids : List ℕ) (answer : Result A Refusal) → OnOk answer (new ≡ with_commit old p ids) → OnErr answer (new ≡ old)
    → (length new.offsets ≡ length old.offsets) × (length new.counts ≡ length old.counts)
unfolding raised
store-lengths old new p ids (Ok v) ok err = (ap (λ s. length s.offsets) ok ∙ length-set old.offsets p _, ap (λ s. length s.counts) ok ∙ length-raised 0 old.counts ids)
store-lengths old new p ids (Err why) ok err = (ap (λ s. length s.offsets) err, ap (λ s. length s.counts) err)

pub commit-valid : {A : Type 0} (g : GroupState) (l : PartitionLogs) (old new : Commits) (p : ℕ) (ids : List ℕ) (answer : Result A Refusal)
    → IsValidCluster (record { group = g; logs = l; store = without_capacity old }) → OnOk answer (new ≡ with_commit old p ids) → OnErr answer (new ≡ old) → (IsExact old l → IsExact new l)
    → IsValidCluster (record { group = g; logs = l; store = without_capacity new })
commit-valid g l old new p ids answer k ok err exact =
    let same = store-lengths old new p ids answer ok err in
    let now = exact (record { within = k.exact.within; counted = k.exact.counted; spare = k.exact.spare }) in
    record {
      group = k.group;
      logs = k.logs;
      exact = record { within = now.within; counted = now.counted; spare = now.spare };
      logs_partitions = k.logs_partitions;
      store_partitions = same.0 ∙ k.store_partitions;
      a_counter_each = same.1 ∙ k.a_counter_each;
    }

pub assigned_over : (g : GroupState) → AreConsistentSeats g → (m : ℕ) → partitions_of (assigned_of g m) ≡ g.partitions
assigned_over g consistent m = go (member_of g m) (λ x is. consistent m x is)
  where
    go : (seat : Option Seat) → ((x : Seat) → seat ≡ Some x → IsConsistentSeat g.partitions x) → partitions_of (seat_assigned g.partitions seat) ≡ g.partitions
    go None f = partitions_empty g.partitions
    go (Some x) f = (f x refl).assigned_below

pub over-consistent : (g : GroupState) (l : PartitionLogs) (store : Commits) → g ≡ opening l.partitions → IsValidLogs l → length store.offsets ≡ l.partitions → store.counts ≡ replicate (length l.keys) 0 → IsExact store l
    → IsValidCluster (record { group = g; logs = l; store = without_capacity store })
over-consistent g l store group logs offsets counts exact =
    let same : g.partitions ≡ l.partitions = ap (λ h. h.partitions) group in
    record {
      group = subst IsValidGroup (sym group) (opening_valid l.partitions logs.some_partitions logs.few_partitions);
      logs = logs;
      exact = record { within = exact.within; counted = exact.counted; spare = exact.spare };
      logs_partitions = sym same;
      store_partitions = offsets ∙ sym same;
      a_counter_each = ap length counts ∙ length_replicate (length l.keys) 0;
    }

pub no_counters : (l : PartitionLogs) → AreLogsOf [] l → replicate {A = ℕ} (length l.keys) 0 ≡ []
unfolding distinct
no_counters l none = ap (λ (ks : List Key). replicate {A = ℕ} (length ks) 0) none.numbers
