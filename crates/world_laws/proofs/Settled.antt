-- A settled group stays settled at each step by which no member joins or leaves.
use Rattle.std.proofs.Common.{◌≡◌, ◌∙◌, ℕ, true, Ok, refl, sym, ap}
use Rattle.std.proofs.lemmas.Bool.{false≢true}
use Rattle.bit_planes.specs.PartitionSet.{PartitionSet, is_same}
use Rattle.bit_planes.proofs.Sets.{both_true}
use Rattle.group_machine.specs.Cluster.{ClusterState}
use Rattle.group_machine.specs.Settled.{agrees, all_agree, is_settled, is_stable}
use Rattle.group_machine.specs.State.{GroupState, seat_assigned, seat_granted}
use Rattle.group_machine.specs.Steps.{rejoin_answer}
use Rattle.group_laws.proofs.ResultLemmas.{accepted}
use Rattle.group_laws.proofs.PassLemmas.{settled_same}
use Rattle.group_laws.proofs.StepLemmas.{settled_synced}
use Rattle.group_laws.proofs.TakeOverLemmas.{taken_settled}
use Rattle.world_laws.proofs.Steps.{GoesOn, HoldsOfSteps}

abbrev pub StaysSettled : ClusterState → ClusterState → Type 0
StaysSettled old new = is_settled old.group ≡ true → is_settled new.group ≡ true

-- a settled group accepts no rejoin
no_rejoin : (g : GroupState) (m generation : ℕ) (claim : PartitionSet) → rejoin_answer g m generation claim ≡ Ok tt → is_settled g ≡ true → ⊥
no_rejoin g m generation claim ok settled =
    let a = accepted g m generation claim ok in
    let stable : is_stable g.phase ≡ true = (both_true (is_stable g.phase) (all_agree g) settled).0 in
    let same : agrees a.0 ≡ true = ap (λ o. is_same (seat_granted g.partitions o) (seat_assigned g.partitions o)) (sym a.1) ∙ settled_same g m settled in
    false≢true (sym a.2 ∙ rw (stable, same) refl)

pub stays_settled : HoldsOfSteps (λ commits. StaysSettled)
stays_settled = record {
  same = λ s settled. settled;
  appended = λ s keyed at v topic ok settled. settled;
  taken_over = λ s name n v ok settled. taken_settled s.group name ∙ settled;
  synced = λ s m v settled. settled_synced s.group m ∙ settled;
  rejoined = λ s m generation claim v ok settled. absurd (no_rejoin s.group m generation claim ok settled);
  committed = λ s c end v ok settled. settled;
}

pub settled_on : GoesOn (λ commits. StaysSettled)
settled_on xs ys a b c first second settled = second (first settled)
