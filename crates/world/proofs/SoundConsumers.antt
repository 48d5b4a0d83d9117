-- Consumers after the steps that change them.
use Rattle.std.proofs.Common.{◌≡◌, ◌⊎◌, ◌∙◌, ◌<◌, ◌≤◌, ℕ, Bool, true, false, Option, Some, None, Ok, length, refl, sym, ap, inl, inr, arith}
use Rattle.std.specs.Prelude.{is_some, if◌then◌else◌}
use Rattle.std.proofs.lemmas.Bool.{cases_lt}
use Rattle.bit_planes.specs.PartitionSet.{is_in, partitions_of}
use Rattle.bit_planes.proofs.Sets.{in_below}
use Rattle.partition_log.specs.Logs.{log_at}
use Rattle.commit_store.specs.Commits.{committed_at}
use Rattle.group_machine.specs.State.{GroupState, assigned_of, granted_of, is_present}
use Rattle.group_laws.specs.Others.{IsNewcomer, LeavesRejoined}
use Rattle.group_machine.specs.Steps.{rejoin_answer, rejoined_by, synced_by}
use Rattle.group_machine.specs.Cluster.{ClusterState, IsValidCluster, LeaseTerms, lease_of, start_of, with_group}
use Rattle.group_machine.proofs.ClusterLemmas.{assigned_over}
use Rattle.group_laws.proofs.AssignedLemmas.{assigned_in_granted}
use Rattle.group_laws.proofs.OtherLemmas.{rejoin_leaves, rejoin_leaves_rejoined, sync_marks}
use Rattle.consumer.specs.declared.held.Held.{Held}
use Rattle.consumer.specs.Consumer.{ConsumerState, given_up, held_at, is_held, joined_as, leased, leased_slot, out_of_group}
use Rattle.consumer.proofs.Changed.{base_out, joined_valid, nothing_held, position_out}
use Rattle.consumer.proofs.Valid.{given_up_valid, leased_valid, slot_base, slot_by, slot_past, slot_position}
use Rattle.world.specs.Valid.{IsConsumerOf, IsInStep}
use Rattle.world.proofs.Groups.{behind}
use Rattle.world.proofs.Refusals.{IsRejoining, rejoin_accepted}
use Rattle.world.proofs.Stays.{IsSoundConsumer}

-- ---- leases
abbrev IsLeasedSlot : ConsumerState → LeaseTerms → ℕ → Type 0
IsLeasedSlot c lease p = (held_at (leased c lease) p ≡ leased_slot lease p (held_at c p)) ⊎ (held_at (leased c lease) p ≡ None)

leased_at : (c : ConsumerState) (lease : LeaseTerms) (p : ℕ) → IsLeasedSlot c lease p
leased_at c lease p =
    elim (cases_lt p (length c.held)) [
      | inl lt ↦ inl (slot_by (λ q. leased_slot lease q (held_at c q)) (length c.held) p lt)
      | inr le ↦ inr (slot_past (λ q. leased_slot lease q (held_at c q)) (length c.held) p le)
    ]

leased_base : (lease : LeaseTerms) (p most : ℕ) (o : Option Held) → slot_base o ≤ most → start_of lease p ≤ most → slot_base (leased_slot lease p o) ≤ most
leased_base lease p most (Some h) old new = old
leased_base lease p most None old new = go (is_in lease.assigned p)
  where
    go : (b : Bool) → slot_base (if b then Some (record { base = start_of lease p; position = start_of lease p }) else None) ≤ most
    go true = new
    go false = omega arith

leased_position : (lease : LeaseTerms) (p most : ℕ) (o : Option Held) → slot_position o ≤ most → start_of lease p ≤ most → slot_position (leased_slot lease p o) ≤ most
leased_position lease p most (Some h) old new = old
leased_position lease p most None old new = go (is_in lease.assigned p)
  where
    go : (b : Bool) → slot_position (if b then Some (record { base = start_of lease p; position = start_of lease p }) else None) ≤ most
    go true = new
    go false = omega arith

leased_from : (lease : LeaseTerms) (p : ℕ) (o : Option Held) → is_some (leased_slot lease p o) ≡ true → (is_some o ≡ true) ⊎ (is_in lease.assigned p ≡ true)
leased_from lease p (Some h) e = inl refl
leased_from lease p None e = inr (go (is_in lease.assigned p) e)
  where
    go : (b : Bool) → is_some (let x : Option Held = if b then Some (record { base = start_of lease p; position = start_of lease p }) else None in x) ≡ true → b ≡ true
    go true h = refl
    go false h = absurd (cc h)

leased_to : (lease : LeaseTerms) (p : ℕ) (o : Option Held) → is_in lease.assigned p ≡ true → is_some (leased_slot lease p o) ≡ true
leased_to lease p (Some h) e = refl
leased_to lease p None e = rw e refl

pub sync_sound : (s : ClusterState) (m : ℕ) (c : ConsumerState) → IsValidCluster s → IsConsumerOf s m c → IsInStep s.group m c → is_present s.group m ≡ true → IsSoundConsumer (with_group s (synced_by s.group m)) m (leased c (lease_of s m))
sync_sound s m c v was step here =
    let g = s.group in
    let lease : LeaseTerms = lease_of s m in
    let marks = sync_marks g m in
    let over : partitions_of lease.assigned ≡ c.partitions = assigned_over g v.group.consistent m ∙ sym was.partitions in
    let inside : (p : ℕ) → is_in (assigned_of g m) p ≡ true → p < length c.held = λ p h. omega (arith, in_below (assigned_of g m) p h, over, was.valid.one_each) in
    record {
      is_consumer = record {
        valid = leased_valid c lease was.valid step.member over;
        partitions = was.partitions;
        number = was.number;
        committed = λ p. elim (leased_at c lease p) [
          | inl at ↦ rw at (leased_base lease p (committed_at s.store p) (held_at c p) (was.committed p) (omega arith))
          | inr none ↦ rw none (omega arith)
        ];
        within = λ p. elim (leased_at c lease p) [
          | inl at ↦ rw at (leased_position lease p (length (log_at s.logs p)) (held_at c p) (was.within p) (v.exact.within p))
          | inr none ↦ rw none (omega arith)
        ];
      };
      step = λ present. record {
        member = step.member;
        granted = λ p h. elim (leased_at c lease p) [
          | inl at ↦ elim (leased_from lease p (held_at c p) (sym (ap is_some at) ∙ h)) [
            | inl held ↦ ap (λ x. is_in x p) marks.granted ∙ step.granted p held
            | inr new ↦ ap (λ x. is_in x p) marks.granted ∙ assigned_in_granted g v.group.consistent m p new
          ]
          | inr none ↦ absurd (let wrong = sym (ap is_some none) ∙ h in cc)
        ];
        not_ahead = omega (arith, marks.generation);
        synced = (λ e. marks.synced ∙ here, λ e. sym marks.generation);
        assigned = λ e. sym marks.assigned;
        held = λ e p h.
            let mine : is_in (assigned_of g m) p ≡ true = ap (λ x. is_in x p) (sym marks.assigned) ∙ h in
            ap is_some (slot_by (λ q. leased_slot lease q (held_at c q)) (length c.held) p (inside p mine)) ∙ leased_to lease p (held_at c p) mine;
      };
    }

-- ---- giving up
abbrev retained_slot : ConsumerState → ℕ → Option Held
retained_slot c p = if is_in c.assigned p then held_at c p else None

preserved_at : (c : ConsumerState) (p : ℕ) → (held_at (given_up c) p ≡ retained_slot c p) ⊎ (held_at (given_up c) p ≡ None)
preserved_at c p =
    elim (cases_lt p (length c.held)) [
      | inl lt ↦ inl (slot_by (retained_slot c) (length c.held) p lt)
      | inr le ↦ inr (slot_past (retained_slot c) (length c.held) p le)
    ]

preserved_base : (b : Bool) (o : Option Held) (most : ℕ) → slot_base o ≤ most → slot_base (if b then o else None) ≤ most
preserved_base true o most le = le
preserved_base false o most le = omega arith

retained_position : (b : Bool) (o : Option Held) (most : ℕ) → slot_position o ≤ most → slot_position (if b then o else None) ≤ most
retained_position true o most le = le
retained_position false o most le = omega arith

preserved_if : (b : Bool) (o : Option Held) → is_some (if b then o else None) ≡ true → b ≡ true
preserved_if true o e = refl
preserved_if false o e = absurd (cc e)

held_assigned : (c : ConsumerState) (p : ℕ) → is_held (given_up c) p ≡ true → is_in c.assigned p ≡ true
held_assigned c p h =
    elim (preserved_at c p) [
      | inl at ↦ preserved_if (is_in c.assigned p) (held_at c p) (sym (ap is_some at) ∙ h)
      | inr none ↦ absurd (let wrong = sym (ap is_some none) ∙ h in cc)
    ]

held_on : (c : ConsumerState) (p : ℕ) → p < length c.held → is_in c.assigned p ≡ true → is_held c p ≡ true → is_held (given_up c) p ≡ true
held_on c p lt mine held = ap is_some (slot_by (retained_slot c) (length c.held) p lt) ∙ rw mine held

rejoined_step : (g new : GroupState) (m : ℕ) (c : ConsumerState) → IsInStep g m c → IsRejoining g m c.generation → ((p : ℕ) → is_in c.assigned p ≡ true → p < length c.held) → LeavesRejoined g new m → IsInStep new m (given_up c)
rejoined_step g new m c was r inside left =
    let mine : c.assigned ≡ assigned_of g m = was.assigned r.synced in
    let granted : (p : ℕ) → is_held (given_up c) p ≡ true → is_in (granted_of new m) p ≡ true = λ p h. left.granted p (ap (λ x. is_in x p) (sym mine) ∙ held_assigned c p h) in
    elim left.either [
      | inl b ↦ record {
        member = was.member;
        granted = granted;
        not_ahead = omega (arith, was.not_ahead, b.generation);
        synced = (λ e. b.synced ∙ r.synced, λ e. r.current ∙ sym b.generation);
        assigned = λ e. mine ∙ sym b.assigned;
        held = λ e p h.
            let own : is_in (assigned_of g m) p ≡ true = ap (λ x. is_in x p) (sym b.assigned) ∙ h in
            let assigned : is_in c.assigned p ≡ true = ap (λ x. is_in x p) mine ∙ own in
            held_on c p (inside p assigned) assigned (was.held r.synced p own);
      }
      | inr b ↦ behind g new m (given_up c) was.member granted was.not_ahead b.generation b.synced
    ]

pub rejoin_sound : (s : ClusterState) (m : ℕ) (c : ConsumerState) → IsValidCluster s → IsConsumerOf s m c → IsInStep s.group m c → rejoin_answer s.group m c.generation c.assigned ≡ Ok tt → IsSoundConsumer (with_group s (rejoined_by s.group m)) m (given_up c)
rejoin_sound s m c v was step ok =
    let left = rejoin_leaves_rejoined s.group m c.generation c.assigned v.group ok in
    let inside : (p : ℕ) → is_in c.assigned p ≡ true → p < length c.held = λ p h. omega (arith, in_below c.assigned p h, was.valid.assigned_below, was.valid.one_each) in
    record {
      is_consumer = record {
        valid = given_up_valid c was.valid;
        partitions = was.partitions ∙ sym (same_partitions s m c v ok);
        number = was.number;
        committed = λ p. elim (preserved_at c p) [
          | inl at ↦ rw at (preserved_base (is_in c.assigned p) (held_at c p) (committed_at s.store p) (was.committed p))
          | inr none ↦ rw none (omega arith)
        ];
        within = λ p. elim (preserved_at c p) [
          | inl at ↦ rw at (retained_position (is_in c.assigned p) (held_at c p) (length (log_at s.logs p)) (was.within p))
          | inr none ↦ rw none (omega arith)
        ];
      };
      step = λ here. rejoined_step s.group (rejoined_by s.group m) m c step (rejoin_accepted s.group m c.generation c.assigned ok) inside left;
    }
  where
    same_partitions : (s : ClusterState) (m : ℕ) (c : ConsumerState) → IsValidCluster s → rejoin_answer s.group m c.generation c.assigned ≡ Ok tt → (rejoined_by s.group m).partitions ≡ s.group.partitions
    same_partitions s m c v ok = (rejoin_leaves s.group m c.generation c.assigned v.group ok).partitions

-- ---- joining
pub join_sound : (s new : ClusterState) (m : ℕ) → IsValidCluster new → new.group.partitions ≡ s.group.partitions → IsNewcomer s.group new.group m → 0 < new.group.generation → IsSoundConsumer new m (joined_as (out_of_group s.group.partitions) m)
join_sound s new m v same newcomer counted =
    let n = s.group.partitions in
    record {
      is_consumer = record {
        valid = joined_valid n m (omega (arith, v.group.sized.some_partitions, same)) (omega (arith, v.group.sized.few_partitions, same));
        partitions = sym same;
        number = λ k e. cc;
        committed = λ p. omega (arith, base_out n p);
        within = λ p. omega (arith, position_out n p);
      };
      step = λ here. record {
        member = refl;
        granted = λ p h. absurd (let none = nothing_held n p in cc);
        not_ahead = omega arith;
        synced = (λ e. absurd (omega (arith, counted, e)), λ e. absurd (cc (e, newcomer.unsynced)));
        assigned = λ e. absurd (cc (e, newcomer.unsynced));
        held = λ e p h. absurd (cc (e, newcomer.unsynced));
      };
    }
