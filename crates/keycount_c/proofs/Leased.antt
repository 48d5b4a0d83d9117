-- The lists of a lease fit where all partitions do, and what a name made of a text says of the text.
use Rattle.std.proofs.Common.{◌≡◌, ℕ, ◌≤◌, Bool, true, false, List, refl, ap, inl, inr, arith, length}
use Rattle.std.specs.Prelude.{Result, Ok, Err, Some, None, if◌then◌else◌}
use Rattle.std.specs.Result.{result_and}
use Rattle.lane_words.specs.Answers.{Answers}
use Rattle.lane_words.specs.declared.Refusal.{Refusal}
use Rattle.bit_planes.specs.PartitionSet.{PartitionSet, elements, partitions_of}
use Rattle.bit_planes.proofs.Sets.{size_most}
use Rattle.partitioner.specs.Name.{is_name}
use Rattle.group_machine.specs.State.{assigned_of}
use Rattle.group_machine.specs.Steps.{sync_answer}
use Rattle.group_machine.specs.Cluster.{ClusterState, IsValidCluster, LeaseTerms, cluster_sync_answer, lease_of}
use Rattle.group_machine.proofs.ClusterLemmas.{assigned_over}
use Rattle.keycount_c.proofs.Filling.{length_elements}

if_done : (a : Result (Unit {0}) Refusal) (l l' : LeaseTerms) → Answers (result_and a (Ok l)) (Ok l') → l' ≡ l
if_done (Ok u) l l' (inl e) = search e
if_done (Ok u) l l' (inr e) = search e
if_done (Err why) l l' (inl e) = search e
if_done (Err why) l l' (inr e) = search e

-- the lease that a sync returns
pub leased : (s : ClusterState) (member : ℕ) (l : LeaseTerms) → Answers (cluster_sync_answer s member) (Ok l) → l ≡ lease_of s member
leased s member l a = if_done (sync_answer s.group member) (lease_of s member) l a

few_elements : (s : PartitionSet) → length (elements s) ≤ partitions_of s
few_elements s = let all = length_elements s in let most = size_most s in omega (arith, all, most)

pub lease_fits : (s : ClusterState) (member : ℕ) (l : LeaseTerms) → IsValidCluster s → Answers (cluster_sync_answer s member) (Ok l) → length (elements l.assigned) ≤ s.group.partitions
lease_fits s member l valid a =
    let few = few_elements (assigned_of s.group member) in
    let over = assigned_over s.group valid.group.consistent member in
    let same = ap (λ (t : LeaseTerms). length (elements t.assigned)) (leased s member l a) in
    omega (arith, few, over, same)

if_name : (b : Bool) (text name : List ℕ) → Some name ≡ (if b then Some text else None) → (b ≡ true) × (name ≡ text)
if_name true text name e = (refl, search e)
if_name false text name e = search e

pub named : (text name : List ℕ) → Some name ≡ (if is_name text then Some text else None) → (is_name text ≡ true) × (name ≡ text)
named text name e = if_name (is_name text) text name e
