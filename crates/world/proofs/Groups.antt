-- Consumers follow their members through the steps of the group.
use Rattle.std.proofs.Common.{◌≡◌, ◌∙◌, ◌+◌, ◌≤◌, ℕ, true, false, Some, sym, ap, inl, inr, arith}
use Rattle.bit_planes.specs.PartitionSet.{is_in}
use Rattle.group_machine.specs.State.{GroupState, granted_of, is_synced}
use Rattle.group_laws.specs.Others.{IsAsBefore, LeavesMember}
use Rattle.consumer.specs.Consumer.{ConsumerState, is_held}
use Rattle.consumer.proofs.Changed.{HasSameHold}
use Rattle.world.specs.Valid.{IsInStep}

pub in_step_same : (g : GroupState) (m : ℕ) (c new : ConsumerState) → HasSameHold c new → IsInStep g m c → IsInStep g m new
in_step_same g m c new same was = record {
  member = same.member ∙ was.member;
  granted = λ p h. was.granted p (sym (same.held p) ∙ h);
  not_ahead = omega (arith, was.not_ahead, same.generation);
  synced = (λ e. was.synced.0 (sym same.generation ∙ e), λ s. same.generation ∙ was.synced.1 s);
  assigned = λ s. same.assigned ∙ was.assigned s;
  held = λ s p h. same.held p ∙ was.held s p h;
}

as_before : (old new : GroupState) (n : ℕ) (c : ConsumerState) → ((q : ℕ) → is_in (granted_of old n) q ≡ true → is_in (granted_of new n) q ≡ true) → IsInStep old n c → IsAsBefore old new n → IsInStep new n c
as_before old new n c granted was b = record {
  member = was.member;
  granted = λ p h. granted p (was.granted p h);
  not_ahead = omega (arith, was.not_ahead, b.generation);
  synced = (λ e. b.synced ∙ was.synced.0 (e ∙ b.generation), λ s. was.synced.1 (sym b.synced ∙ s) ∙ sym b.generation);
  assigned = λ s. was.assigned (sym b.synced ∙ s) ∙ sym b.assigned;
  held = λ s p h. was.held (sym b.synced ∙ s) p (ap (λ x. is_in x p) (sym b.assigned) ∙ h);
}

pub behind : (old new : GroupState) (n : ℕ) (c : ConsumerState) → c.member ≡ Some n → ((q : ℕ) → is_held c q ≡ true → is_in (granted_of new n) q ≡ true) → c.generation ≤ old.generation
    → new.generation ≡ old.generation + 1 → is_synced new n ≡ false → IsInStep new n c
behind old new n c member granted not_ahead next unsynced = record {
  member = member;
  granted = granted;
  not_ahead = omega (arith, not_ahead, next);
  synced = (λ e. absurd (omega (arith, not_ahead, next, e)), λ s. absurd (cc (s, unsynced)));
  assigned = λ s. absurd (cc (s, unsynced));
  held = λ s p h. absurd (cc (s, unsynced));
}

pub in_step_left : (old new : GroupState) (n : ℕ) (c : ConsumerState) → LeavesMember old new n → IsInStep old n c → IsInStep new n c
in_step_left old new n c left was =
    elim left.either [
      | inl b ↦ as_before old new n c left.granted was b
      | inr b ↦ behind old new n c was.member (λ q h. left.granted q (was.granted q h)) was.not_ahead b.generation b.synced
    ]
