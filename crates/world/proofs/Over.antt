-- The world over given logs.
use Rattle.std.proofs.Common.{◌≡◌, ◌∙◌, ◌<◌, ℕ, zero, suc, List, [], ap, arith, length, refl, replicate, subst, sym}
use Rattle.std.specs.Prelude.{slice_index_or}
use Rattle.std.proofs.lemmas.List.{get_or-replicate, get_or_default, length-replicate, same_lists}
use Rattle.commit_store.specs.Commits.{Commits, committed_at}
use Rattle.group_machine.specs.Cluster.{ClusterState}
use Rattle.group_machine.specs.State.{opening}
use Rattle.group_machine.proofs.ClusterLemmas.{no_counters}
use Rattle.partition_log.specs.Logs.{AreLogsOf, PartitionLogs}
use Rattle.world.specs.Runs.{IsOpening, world_over}
use Rattle.world.specs.World.{WorldState}

all_alike : {X : Type 0} (xs : List X) (n : ℕ) (x d : X) → length xs ≡ n → ((i : ℕ) → i < n → slice_index_or xs i d ≡ x) → xs ≡ replicate n x
all_alike xs n x d long each =
    same_lists xs (replicate n x) (long ∙ sym (length-replicate n x)) (λ i e lt.
    get_or_default xs i e d lt ∙ each i (omega (arith, lt, long)) ∙ sym (get_or-replicate n i x e (omega (arith, lt, long))))

store_over : (partitions keys : ℕ) (s : Commits) → length s.offsets ≡ partitions → ((p : ℕ) → committed_at s p ≡ 0) → s.counts ≡ replicate keys 0 → s.capacity ≡ 0
    → s ≡ record { offsets = replicate partitions 0; counts = replicate keys 0; capacity = 0 }
store_over partitions keys s long offsets counts capacity =
    let zeros : s.offsets ≡ replicate partitions 0 = all_alike s.offsets partitions 0 0 long (λ p lt. offsets p) in
    ap (λ os. let r : Commits = record { offsets = os; counts = s.counts; capacity = s.capacity } in r) zeros
    ∙ ap (λ cs. let r : Commits = record { offsets = replicate partitions 0; counts = cs; capacity = s.capacity } in r) counts
    ∙ ap (λ n. let r : Commits = record { offsets = replicate partitions 0; counts = replicate keys 0; capacity = n } in r) capacity

pub over_is : (l : PartitionLogs) (s : ClusterState) → s.group ≡ opening l.partitions → s.logs ≡ l → length s.store.offsets ≡ l.partitions → ((p : ℕ) → committed_at s.store p ≡ 0) → s.store.counts ≡ replicate (length l.keys) 0 → s.store.capacity ≡ 0
    → (let w : WorldState = record { cluster = s; consumers = []; mail = [] } in w ≡ world_over l)
unfolding world_over
over_is l s group logs long offsets counts capacity =
    let store = store_over l.partitions (length l.keys) s.store long offsets counts capacity in
    ap (λ g. let w : WorldState = record { cluster = record { group = g; logs = s.logs; store = s.store }; consumers = []; mail = [] } in w) group
    ∙ ap (λ x. let w : WorldState = record { cluster = record { group = opening l.partitions; logs = x; store = s.store }; consumers = []; mail = [] } in w) logs
    ∙ ap (λ x. let w : WorldState = record { cluster = record { group = opening l.partitions; logs = l; store = x }; consumers = []; mail = [] } in w) store

zero_among : (n p : ℕ) → slice_index_or (replicate {A = ℕ} n 0) p 0 ≡ 0
zero_among zero p = refl
zero_among (suc n) zero = refl
zero_among (suc n) (suc p) = zero_among n p

-- what is known of a world over logs without records
pub record IsOverEmpty (l : PartitionLogs) (w : WorldState) : Type 0 where
  pub opening : IsOpening l.partitions w
  pub counts : w.cluster.logs.counts ≡ l.counts
  pub offsets : (p : ℕ) → committed_at w.cluster.store p ≡ 0

empty_over : (l : PartitionLogs) → AreLogsOf [] l → IsOverEmpty l (world_over l)
unfolding world_over
empty_over l empty = record {
  opening = record {
    group = refl;
    logs = empty;
    counts = no_counters l empty;
    capacity = refl;
    consumers = refl;
    mail = refl;
  };
  counts = refl;
  offsets = zero_among l.partitions;
}

pub over_empty : (l : PartitionLogs) (w : WorldState) → w ≡ world_over l → AreLogsOf [] l → IsOverEmpty l w
over_empty l w is empty = subst (IsOverEmpty l) (sym is) (empty_over l empty)
