-- The forms of a call on the cluster behind a handle: the cluster before it, what it returns and
-- writes, and the cluster after it. There may be none behind the handle.
use Rattle.std.specs.Prelude.{◌≡◌, ℕ, ◌<◌, ◌≤◌, ◌==◌, ◌⊎◌, All, Bool, true, false, Option, None, Some, Result, Ok, List, [], drop, length, map, nat_lt, OnOk, OnErr}
use Rattle.std.specs.List.{list_any, sum}
use Rattle.lane_words.specs.Answers.{Answers}
use Rattle.lane_words.specs.declared.Refusal.{Refusal}
use Rattle.lane_words.specs.declared.Refusal.TheVariants.{UnknownMember}
use Rattle.lane_words.specs.Refusal.{code_of}
use Rattle.bit_planes.specs.PartitionSet.{PartitionSet, elements, is_in, partitions_of}
use Rattle.partitioner.specs.Name.{is_name}
use Rattle.partition_log.specs.Keys.{key_at}
use Rattle.partition_log.specs.Logs.{log_at}
use Rattle.group_machine.specs.State.{GroupState, is_present, opening}
use Rattle.group_machine.specs.Steps.{leave_answer, left_by, rejoin_answer, rejoined_by, synced_by}
use Rattle.group_machine.specs.Cluster.{AreCounts, AreLogsOf, ClusterState, CommitTerms, IsValidCluster, LeaseTerms, append_answer, appended_to, cluster_commit_answer, cluster_sync_answer, committed_at, committed_by, start_of, with_group}
use Rattle.keycount_c.specs.Answers.{number_of, offset_of, value_of}
use Rattle.keycount_c.specs.Lists.{IsCopied, IsListed, with_front}
use Rattle.keycount_c.specs.declared.answers.TheConstants.{BAD_ARGUMENT, DONE, HAS_VALUE, MEMORY, NO_VALUE, TOO_SHORT}

-- a step of a cluster: what it answers unless memory is refused, and the state after it
pub record IsStep {V : Type 0} (expected : Result V Refusal) (s next : ClusterState)
    (answer : Result V Refusal) (s' : ClusterState) : Type 0 where
  pub answers : Answers expected answer
  pub ok : OnOk answer (s' ≡ next)
  pub err : OnErr answer (s' ≡ s)

-- a call that makes such a step, returns the number of its answer, and writes its outputs by
-- `write`
pub record MakesStep {V O : Type 0} (write : Result V Refusal → O → O)
    (expected : Result V Refusal) (s next : ClusterState) (out : O) (code : ℕ) (out' : O)
    (after : Option ClusterState) : Type 0 where
  pub answer : Result V Refusal
  pub state : ClusterState
  pub step : IsStep expected s next answer state
  pub number : code ≡ number_of answer
  pub output : out' ≡ write answer out
  pub kept : after ≡ Some state

-- a call that returns this number, and changes nothing
abbrev pub Refuses : {O : Type 0} → ℕ → Option ClusterState → O → ℕ → O
    → Option ClusterState → Type 0
Refuses why before out number out' after = (number ≡ why) × (out' ≡ out) × (after ≡ before)

-- a call that makes a step, if there is a cluster
abbrev pub Steps : {V O : Type 0} → (Result V Refusal → O → O) → (ClusterState → Result V Refusal)
    → (ClusterState → ClusterState) → Option ClusterState → O → ℕ → O → Option ClusterState
    → Type 0
Steps write answer next None out number out' after = Refuses NO_VALUE None out number out' after
Steps write answer next (Some s) out number out' after =
    MakesStep write (answer s) s (next s) out number out' after

-- the same, if what the step requires holds
abbrev pub StepsIf : {V O : Type 0} → (ClusterState → Bool) → (Result V Refusal → O → O)
    → (ClusterState → Result V Refusal) → (ClusterState → ClusterState) → Option ClusterState → O
    → ℕ → O → Option ClusterState → Type 0
StepsIf may write answer next None out number out' after =
    Refuses NO_VALUE None out number out' after
StepsIf may write answer next (Some s) out number out' after =
    ((may s ≡ true) × MakesStep write (answer s) s (next s) out number out' after)
    ⊎ ((may s ≡ false) × Refuses BAD_ARGUMENT (Some s) out number out' after)

-- an append to the topic of this index, if there is one
abbrev pub Appends : ℕ → List ℕ → Option ClusterState → ℕ × ℕ → ℕ → ℕ × ℕ → Option ClusterState
    → Type 0
Appends topic key before out number out' after =
    StepsIf (λ s. nat_lt topic (length s.logs.counts)) value_of
    (λ s. append_answer s.logs (topic, key)) (λ s. appended_to s (topic, key))
    before out number out' after

-- a step of the group for this name, if it is one; a member number is written
abbrev pub StepsByName : (GroupState → List ℕ → Result ℕ Refusal)
    → (GroupState → List ℕ → GroupState) → List ℕ → Option ClusterState → ℕ → ℕ → ℕ
    → Option ClusterState → Type 0
StepsByName answer next name before out number out' after =
    StepsIf (λ s. is_name name) value_of (λ s. answer s.group name)
    (λ s. with_group s (next s.group name)) before out number out' after

-- a member leaves, or is lost
abbrev pub Leaves : ℕ → Option ClusterState → ℕ → Option ClusterState → Type 0
Leaves member before number after =
    Steps value_of (λ s. leave_answer s.group member)
    (λ s. with_group s (left_by s.group member)) before tt number tt after

-- a rejoin with a claim of these numbers, all of partitions: the claim is the set of them
pub record RejoinsWith (member generation : ℕ) (numbers : List ℕ) (s : ClusterState) (number : ℕ)
    (after : Option ClusterState) : Type 0 where
  pub claim : PartitionSet
  pub elements : (q : ℕ) → is_in claim q ≡ list_any (λ n. q == n) numbers
  pub partitions : partitions_of claim ≡ s.group.partitions
  pub step : MakesStep value_of (rejoin_answer s.group member generation claim) s
      (with_group s (rejoined_by s.group member)) tt number tt after

abbrev pub Rejoins : ℕ → ℕ → List ℕ → Option ClusterState → ℕ → Option ClusterState → Type 0
Rejoins member generation numbers None number after =
    Refuses {O = Unit {0}} NO_VALUE None tt number tt after
Rejoins member generation numbers (Some s) number after =
    RejoinsWith member generation numbers s number after
    ⊎ ((All (λ q. q < s.group.partitions) numbers → ⊥)
    × Refuses {O = Unit {0}} BAD_ARGUMENT (Some s) tt number tt after)

-- what a sync writes: the generation, the partitions that the member is assigned, the offset to
-- read each from, and how many these are
abbrev pub Leased : Type 0
Leased = ℕ × List ℕ × List ℕ × ℕ

abbrev pub lease_written : LeaseTerms → List ℕ × List ℕ → Leased
lease_written lease (partitions, offsets) = (
  lease.generation,
  with_front (elements lease.assigned) partitions,
  with_front (map (start_of lease) (elements lease.assigned)) offsets,
  length (elements lease.assigned),
)

-- both lists have room for all partitions
abbrev pub HasRoom : ClusterState → List ℕ × List ℕ → Type 0
HasRoom s lists = (s.group.partitions ≤ length lists.0) × (s.group.partitions ≤ length lists.1)

-- a sync, if both lists have room for all partitions
abbrev pub Syncs : ℕ → Option ClusterState → List ℕ × List ℕ → ℕ → Option ClusterState → Type 0
Syncs member None lists number after = (number ≡ NO_VALUE) × (after ≡ None)
Syncs member (Some s) lists number after =
    (HasRoom s lists
    × MakesStep {O = Unit {0}} (λ answer out. out) (cluster_sync_answer s member) s
    (with_group s (synced_by s.group member)) tt number tt after)
    ⊎ ((HasRoom s lists → ⊥) × (number ≡ TOO_SHORT) × (after ≡ Some s))

-- what a sync writes is as it was
abbrev pub KeepsLeased : Leased → Leased → Type 0
KeepsLeased old new = new ≡ old

-- the lease of a sync is written
abbrev pub WritesLease : ℕ → Option ClusterState → List ℕ × List ℕ → Leased → Type 0
WritesLease member None lists out = ⊥
WritesLease member (Some s) lists out =
    (lease : LeaseTerms) × (cluster_sync_answer s member ≡ Ok lease)
    × (out ≡ lease_written lease lists)

-- the terms of a commit of records by their key numbers
abbrev pub commit_of : ℕ → ℕ → ℕ → ℕ → List ℕ → CommitTerms
commit_of member generation partition from ids = record {
  member = member;
  generation = generation;
  partition = partition;
  from = from;
  ids = ids;
}

-- a commit
abbrev pub Commits : CommitTerms → Option ClusterState → ℕ → ℕ → ℕ → Option ClusterState → Type 0
Commits c before out number out' after =
    Steps offset_of (λ s. cluster_commit_answer s c) (λ s. committed_by s c)
    before out number out' after

-- a cluster in which nothing has happened, of topics with these numbers of partitions
pub record IsNew (counts : List ℕ) (s : ClusterState) : Type 0 where
  pub group : s.group ≡ opening (sum counts)
  pub topics : s.logs.counts ≡ counts
  pub records : AreLogsOf [] s.logs
  pub counters : s.store.counts ≡ []
  pub offsets : (p : ℕ) → committed_at s.store p ≡ 0
  pub valid : IsValidCluster s

-- there may be a cluster with these numbers of partitions, and the seed is whole
abbrev pub IsFor : List ℕ → List ℕ → Type 0
IsFor counts seed = AreCounts counts × (length seed ≡ 32)

-- a call that puts a new cluster behind a handle
abbrev pub Begins : List ℕ → List ℕ → Option ClusterState → ℕ → Option ClusterState → Type 0
Begins counts seed None number (Some s) = (number ≡ DONE) × IsFor counts seed × IsNew counts s
Begins counts seed None number None =
    ((number ≡ MEMORY) × IsFor counts seed) ⊎ ((number ≡ BAD_ARGUMENT) × (IsFor counts seed → ⊥))
Begins counts seed (Some s) number after = (number ≡ HAS_VALUE) × (after ≡ Some s)

-- a call that frees it
abbrev pub Frees : Option ClusterState → ℕ → Type 0
Frees None number = number ≡ NO_VALUE
Frees (Some s) number = number ≡ DONE

-- a call that reads a value, if there is a cluster
abbrev pub Reads : {V : Type 0} → (ClusterState → V) → Option ClusterState → V → ℕ → V → Type 0
Reads value None out number out' = (number ≡ NO_VALUE) × (out' ≡ out)
Reads value (Some s) out number out' = (number ≡ DONE) × (out' ≡ value s)

-- the same, if what it requires holds
abbrev pub ReadsIf : {V : Type 0} → (ClusterState → Bool) → (ClusterState → V)
    → Option ClusterState → V → ℕ → V → Type 0
ReadsIf may value None out number out' = (number ≡ NO_VALUE) × (out' ≡ out)
ReadsIf may value (Some s) out number out' =
    ((may s ≡ true) × (number ≡ DONE) × (out' ≡ value s))
    ⊎ ((may s ≡ false) × (number ≡ BAD_ARGUMENT) × (out' ≡ out))

-- a call that reads a list, if there is a cluster
abbrev pub Lists : {X : Type 0} → (ClusterState → List X) → Option ClusterState → List X × ℕ → ℕ
    → List X × ℕ → Type 0
Lists items None out number out' = (number ≡ NO_VALUE) × (out' ≡ out)
Lists items (Some s) out number out' = IsListed (items s) out.0 number out'.0 out'.1

-- the same, of the key of a number, if there is one
abbrev pub ListsKey : ℕ → Option ClusterState → List ℕ × ℕ → ℕ → List ℕ × ℕ → Type 0
ListsKey id None out number out' = (number ≡ NO_VALUE) × (out' ≡ out)
ListsKey id (Some s) out number out' =
    ((nat_lt id (length s.logs.keys) ≡ true)
    × IsListed (key_at s.logs.keys id) out.0 number out'.0 out'.1)
    ⊎ ((nat_lt id (length s.logs.keys) ≡ false) × (number ≡ BAD_ARGUMENT) × (out' ≡ out))

-- the same, of a member, if it is present
abbrev pub ListsOf : ℕ → (ClusterState → List ℕ) → Option ClusterState → List ℕ × ℕ → ℕ
    → List ℕ × ℕ → Type 0
ListsOf member items None out number out' = (number ≡ NO_VALUE) × (out' ≡ out)
ListsOf member items (Some s) out number out' =
    ((is_present s.group member ≡ true) × IsListed (items s) out.0 number out'.0 out'.1)
    ⊎ ((is_present s.group member ≡ false) × (number ≡ code_of UnknownMember) × (out' ≡ out))

-- the same, of a member number, if it was given out
abbrev pub IsListedIfAny : {X : Type 0} → Option (List X) → List X × ℕ → ℕ → List X × ℕ → Type 0
IsListedIfAny None out number out' = (number ≡ code_of UnknownMember) × (out' ≡ out)
IsListedIfAny (Some items) out number out' = IsListed items out.0 number out'.0 out'.1

abbrev pub ListsIfAny : {X : Type 0} → (ClusterState → Option (List X)) → Option ClusterState
    → List X × ℕ → ℕ → List X × ℕ → Type 0
ListsIfAny items None out number out' = (number ≡ NO_VALUE) × (out' ≡ out)
ListsIfAny items (Some s) out number out' = IsListedIfAny (items s) out number out'

-- a partition has this offset, or ends there
abbrev pub IsOffset : ClusterState → ℕ → ℕ → Type 0
IsOffset s partition from =
    (partition < s.group.partitions) × (from ≤ length (log_at s.logs partition))

-- a call that reads the records of a partition from an offset on
abbrev pub ReadsRecords : ℕ → ℕ → Option ClusterState → List ℕ × ℕ → ℕ → List ℕ × ℕ → Type 0
ReadsRecords partition from None out number out' = (number ≡ NO_VALUE) × (out' ≡ out)
ReadsRecords partition from (Some s) out number out' =
    (IsOffset s partition from × (number ≡ DONE)
    × IsCopied (drop from (log_at s.logs partition)) out.0 out'.0 out'.1)
    ⊎ ((IsOffset s partition from → ⊥) × (number ≡ BAD_ARGUMENT) × (out' ≡ out))
