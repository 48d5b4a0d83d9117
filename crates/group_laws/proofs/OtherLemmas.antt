-- What a step leaves of the members that it is not about.
use Rattle.std.proofs.Common.{ℕ, zero, suc, ◌≡◌, ◌+◌, ◌≤◌, Bool, true, false, ◌⊎◌, inl, inr, List, [], ◌∷◌, Option, Some, None, Result, Ok, Err, is_some, length, slice_get, cond, refl, ap, sym, ◌∙◌, arith}
use Rattle.std.specs.Option.{option_map}
use Rattle.lane_words.specs.declared.Refusal.{Refusal}
use Rattle.lane_words.specs.declared.Refusal.TheVariants as r
use Rattle.bit_planes.specs.PartitionSet.{PartitionSet, partitions_of, is_in}
use Rattle.bit_planes.specs.SetRows.{SetRows, set_of}
use Rattle.bit_planes.proofs.Sets.{in_union, both_true}
use Rattle.coop_rebalance.specs.Rounds.{AreGranted, next_rows}
use Rattle.group_machine.specs.declared.group.Slot.{Slot}
use Rattle.group_machine.specs.declared.group.Seat.{Seat}
use Rattle.group_machine.specs.Slots.{seat_in, seat_of}
use Rattle.group_machine.specs.State.{GroupState, member_of, is_present, is_anybody, seat_joined, seat_synced, seat_granted, seat_assigned, granted_rows}
use Rattle.group_machine.specs.Completion.{all_joined, is_ready, completed_seat, complete, completed}
use Rattle.group_machine.specs.Steps.{newcomer, joining, join_answer, joined_by, rejoined_seat, rejoining, rejoined_by, rejoin_answer, synced_seat, synced_by, leaving, leave_answer, left_by}
use Rattle.group_machine.specs.Valid.{IsConsistentSeat, IsValidGroup}
use Rattle.group_machine.specs.Private.Changes.{IsChanged}
use Rattle.group_machine.proofs.SlotsLemmas.{same_id, other_id, seat_each, seat_without, one_is_each, at_only}
use Rattle.group_machine.proofs.Rows.{set_over}
use Rattle.group_machine.proofs.Below.{next_rows_valid, next_below}
use Rattle.group_machine.proofs.GroupLemmas.{granted_owned}
use Rattle.group_machine.proofs.StepLemmas.{joining_changed, rejoining_changed, leaving_changed}
use Rattle.group_machine.proofs.PresentLemmas.{some_on}
use Rattle.group_machine.proofs.JoinLemmas.{seat_before, seat_last, accepted_join}
use Rattle.group_laws.specs.Others.{IsAsBefore, IsInNextGeneration, LeavesMember, LeavesOthers, IsNewcomer, HasRejoined, LeavesRejoined, LeavesSynced}
use Rattle.group_laws.proofs.StepLemmas.{synced_same}
use Rattle.group_laws.proofs.ResultLemmas.{accepted}

no_flags : (next : SetRows) (n : ℕ) (o : Option Seat) → (seat_joined (option_map (completed_seat next n) o) ≡ false) × (seat_synced (option_map (completed_seat next n) o) ≡ false)
no_flags next n None = (refl, refl)
no_flags next n (Some x) = (refl, refl)

more_granted : (p : ℕ) (next : SetRows) (n q : ℕ) (o : Option Seat) → ((x : Seat) → o ≡ Some x → IsConsistentSeat p x) → partitions_of (set_of next n) ≡ p → is_in (seat_granted p o) q ≡ true → is_in (seat_granted p (option_map (completed_seat next n) o)) q ≡ true
more_granted p next n q None consistent over e = e
more_granted p next n q (Some x) consistent over e = in_union x.granted (set_of next n) q ((consistent x refl).granted_below ∙ sym over) ∙ rw e refl

completion_leaves : (g : GroupState) → IsChanged g → is_ready g ≡ true → (n : ℕ) → LeavesMember g (complete g) n
completion_leaves g c ready n =
    let any : is_anybody g ≡ true = (both_true (is_anybody g) (all_joined g) ready).0 in
    let next : SetRows = next_rows (granted_rows g) in
    let owned : AreGranted (granted_rows g) = granted_owned g c.sized c.consistent c.disjoint any in
    let over : partitions_of (set_of next n) ≡ g.partitions = set_over next n (next_rows_valid (granted_rows g) owned) ∙ next_below (granted_rows g) owned in
    let at : member_of (complete g) n ≡ option_map (completed_seat next n) (member_of g n) = seat_each (completed_seat next) g.slots n in
    let flags = no_flags next n (member_of g n) in
    record {
      present = ap is_some at ∙ some_on (completed_seat next n) (member_of g n);
      granted = λ q e. ap (λ o. is_in (seat_granted g.partitions o) q) at ∙ more_granted g.partitions next n q (member_of g n) (λ x is. c.consistent n x is) over e;
      either = inr (record { generation = refl; joined = ap seat_joined at ∙ flags.0; synced = ap seat_synced at ∙ flags.1 });
    }

pub as_before : (g : GroupState) (n : ℕ) → LeavesMember g g n
as_before g n = record { present = refl; granted = λ q e. e; either = inl (record { generation = refl; joined = refl; synced = refl; granted = refl; assigned = refl }) }

completed_leaves : (g : GroupState) → IsChanged g → (n : ℕ) → LeavesMember g (completed g) n
completed_leaves g c n = go (is_ready g) refl
  where
    go : (b : Bool) → is_ready g ≡ b → LeavesMember g (cond b (complete g) g) n
    go true e = completion_leaves g c e n
    go false e = as_before g n

completed_partitions : (g : GroupState) → (completed g).partitions ≡ g.partitions
completed_partitions g = go (is_ready g)
  where
    go : (b : Bool) → (cond b (complete g) g).partitions ≡ g.partitions
    go true = refl
    go false = refl

completed_rises : (g : GroupState) → g.generation ≤ (completed g).generation
completed_rises g = go (is_ready g)
  where
    go : (b : Bool) → g.generation ≤ (cond b (complete g) g).generation
    go true = omega arith
    go false = omega arith

-- ---- a member that a step is not about
same_either : (old during new : GroupState) (n : ℕ) → during.generation ≡ old.generation → during.partitions ≡ old.partitions → member_of during n ≡ member_of old n → IsAsBefore during new n ⊎ IsInNextGeneration during new n → IsAsBefore old new n ⊎ IsInNextGeneration old new n
same_either old during new n generation partitions seat (inl b) = inl (record {
  generation = b.generation ∙ generation;
  joined = b.joined ∙ ap seat_joined seat;
  synced = b.synced ∙ ap seat_synced seat;
  granted = b.granted ∙ ap (λ p. seat_granted p (member_of during n)) partitions ∙ ap (seat_granted old.partitions) seat;
  assigned = b.assigned ∙ ap (λ p. seat_assigned p (member_of during n)) partitions ∙ ap (seat_assigned old.partitions) seat;
})
same_either old during new n generation partitions seat (inr b) = inr (record { generation = b.generation ∙ ap (λ k. k + 1) generation; joined = b.joined; synced = b.synced })

pub leaves_before : (old during new : GroupState) (n : ℕ) → during.generation ≡ old.generation → during.partitions ≡ old.partitions → member_of during n ≡ member_of old n → LeavesMember during new n → LeavesMember old new n
leaves_before old during new n generation partitions seat l = record {
  present = l.present ∙ ap is_some seat;
  granted = λ q e. l.granted q (ap (λ p. is_in (seat_granted p (member_of during n)) q) partitions ∙ ap (λ o. is_in (seat_granted old.partitions o) q) seat ∙ e);
  either = same_either old during new n generation partitions seat l.either;
}

step_leaves : (old during : GroupState) (about : ℕ) → IsChanged during → during.generation ≡ old.generation → during.partitions ≡ old.partitions → ((n : ℕ) → (n ≡ about → ⊥) → member_of during n ≡ member_of old n) → LeavesOthers old (completed during) about
step_leaves old during about c generation partitions seats = record {
  partitions = completed_partitions during ∙ partitions;
  rises = omega (arith, generation, completed_rises during);
  others = λ n ne. leaves_before old during (completed during) n generation partitions (seats n ne) (completed_leaves during c n);
}

pub seat_past : (slots : List Slot) → seat_in (slice_get slots (length slots)) ≡ None
seat_past [] = refl
seat_past (t ∷ slots) = seat_past slots

pub joining_others : (g : GroupState) (name : List ℕ) (n : ℕ) → (n ≡ length g.slots + 1 → ⊥) → member_of (joining g name) n ≡ member_of g n
joining_others g name zero ne = refl
joining_others g name (suc k) ne = seat_before g.slots (newcomer g.partitions name) k (λ e. ne (omega (arith, e)))

pub join_leaves : (g : GroupState) (name : List ℕ) (n : ℕ) → IsValidGroup g → join_answer g name ≡ Ok n → LeavesOthers g (joined_by g name) n
join_leaves g name n valid ok =
    let a = accepted_join g name n ok in
    step_leaves g (joining g name) n (joining_changed g name valid a.0) refl refl (λ m ne. joining_others g name m (λ e. ne (e ∙ sym a.1)))

pub join_brings : (g : GroupState) (name : List ℕ) (n : ℕ) → IsValidGroup g → join_answer g name ≡ Ok n → IsNewcomer g (joined_by g name) n
join_brings g name n valid ok =
    let a = accepted_join g name n ok in
    let number : n ≡ suc (length g.slots) = omega (arith, a.1) in
    let here : member_of (joining g name) n ≡ (newcomer g.partitions name).seat = ap (λ m. member_of (joining g name) m) number ∙ seat_last g.slots (newcomer g.partitions name) in
    let l = completed_leaves (joining g name) (joining_changed g name valid a.0) n in
    record {
      new_number = ap (λ m. is_present g m) number ∙ ap is_some (seat_past g.slots);
      present = l.present ∙ ap is_some here;
      unsynced = elim l.either [ inl b ↦ b.synced ∙ ap seat_synced here | inr b ↦ b.synced ];
    }

-- ---- rejoining
pub rejoining_at : (g : GroupState) (member n : ℕ) → member_of (rejoining g member) n ≡ option_map (at_only member rejoined_seat n) (member_of g n)
rejoining_at g member n = ap (λ slots. seat_of slots n) (one_is_each rejoined_seat g.slots member) ∙ seat_each (at_only member rejoined_seat) g.slots n

on_nothing : (o : Option Seat) → option_map (λ x. x) o ≡ o
on_nothing None = refl
on_nothing (Some x) = refl

rejoining_others : (g : GroupState) (member n : ℕ) → (n ≡ member → ⊥) → member_of (rejoining g member) n ≡ member_of g n
rejoining_others g member n ne = rejoining_at g member n ∙ ap (λ (b : Bool). option_map (λ x. cond b (rejoined_seat x) x) (member_of g n)) (other_id n member ne) ∙ on_nothing (member_of g n)

pub rejoining_here : (g : GroupState) (member : ℕ) → member_of (rejoining g member) member ≡ option_map rejoined_seat (member_of g member)
rejoining_here g member = rejoining_at g member member ∙ ap (λ (b : Bool). option_map (λ x. cond b (rejoined_seat x) x) (member_of g member)) (same_id member)

pub rejoin_leaves : (g : GroupState) (member generation : ℕ) (claim : PartitionSet) → IsValidGroup g → rejoin_answer g member generation claim ≡ Ok tt → LeavesOthers g (rejoined_by g member) member
rejoin_leaves g member generation claim valid ok =
    let a = accepted g member generation claim ok in
    step_leaves g (rejoining g member) member (rejoining_changed g member valid (ap is_some a.1)) refl refl (rejoining_others g member)

rejoined_either : (g new : GroupState) (member : ℕ) (x : Seat) → member_of g member ≡ Some x → member_of (rejoining g member) member ≡ Some (rejoined_seat x) → IsAsBefore (rejoining g member) new member ⊎ IsInNextGeneration (rejoining g member) new member → HasRejoined g new member ⊎ IsInNextGeneration g new member
rejoined_either g new member x was is (inl b) = inl (record {
  generation = b.generation;
  joined = b.joined ∙ ap seat_joined is;
  synced = b.synced ∙ ap seat_synced is ∙ sym (ap seat_synced was);
  granted = b.granted ∙ ap (seat_granted g.partitions) is ∙ sym (ap (seat_assigned g.partitions) was);
  assigned = b.assigned ∙ ap (seat_assigned g.partitions) is ∙ sym (ap (seat_assigned g.partitions) was);
})
rejoined_either g new member x was is (inr b) = inr (record { generation = b.generation; joined = b.joined; synced = b.synced })

pub rejoin_leaves_rejoined : (g : GroupState) (member generation : ℕ) (claim : PartitionSet) → IsValidGroup g → rejoin_answer g member generation claim ≡ Ok tt → LeavesRejoined g (rejoined_by g member) member
rejoin_leaves_rejoined g member generation claim valid ok =
    let a = accepted g member generation claim ok in
    let here : member_of (rejoining g member) member ≡ Some (rejoined_seat a.0) = rejoining_here g member ∙ ap (option_map rejoined_seat) a.1 in
    let l = completed_leaves (rejoining g member) (rejoining_changed g member valid (ap is_some a.1)) member in
    record {
      present = l.present ∙ ap is_some here;
      granted = λ q e. l.granted q (ap (λ o. is_in (seat_granted g.partitions o) q) here ∙ ap (λ o. is_in (seat_assigned g.partitions o) q) (sym a.1) ∙ e);
      either = rejoined_either g (rejoined_by g member) member a.0 a.1 here l.either;
    }

-- ---- leaving
pub accepted_leave : (here over : Bool) → ◌≡◌ {A = Result (Unit {0}) Refusal} (cond here (cond over (Err r.GenerationsOver) (Ok tt)) (Err r.UnknownMember)) (Ok tt) → here ≡ true
accepted_leave true over e = refl
accepted_leave false over e = cc

pub leave_leaves : (g : GroupState) (member : ℕ) → IsValidGroup g → leave_answer g member ≡ Ok tt → LeavesOthers g (left_by g member) member
leave_leaves g member valid ok =
    let here : is_present g member ≡ true = accepted_leave (is_present g member) _ ok in
    step_leaves g (leaving g member) member (leaving_changed g member valid here) refl refl (λ n ne. seat_without g.slots member n ∙ rw (other_id n member ne) refl)

pub leave_takes_out : (g : GroupState) (member : ℕ) → IsValidGroup g → leave_answer g member ≡ Ok tt → is_present (left_by g member) member ≡ false
leave_takes_out g member valid ok =
    let here : is_present g member ≡ true = accepted_leave (is_present g member) _ ok in
    (completed_leaves (leaving g member) (leaving_changed g member valid here) member).present
    ∙ ap is_some (seat_without g.slots member member) ∙ rw (same_id member) refl

-- ---- syncing
pub synced_at : (g : GroupState) (member n : ℕ) → member_of (synced_by g member) n ≡ option_map (at_only member synced_seat n) (member_of g n)
synced_at g member n = ap (λ slots. seat_of slots n) (one_is_each synced_seat g.slots member) ∙ seat_each (at_only member synced_seat) g.slots n

synced_others : (g : GroupState) (member n : ℕ) → (n ≡ member → ⊥) → member_of (synced_by g member) n ≡ member_of g n
synced_others g member n ne = synced_at g member n ∙ ap (λ (b : Bool). option_map (λ x. cond b (synced_seat x) x) (member_of g n)) (other_id n member ne) ∙ on_nothing (member_of g n)

pub sync_leaves : (g : GroupState) (member : ℕ) → LeavesOthers g (synced_by g member) member
sync_leaves g member = record {
  partitions = refl;
  rises = omega arith;
  others = λ n ne. leaves_before g (synced_by g member) (synced_by g member) n refl refl (synced_others g member n ne) (as_before (synced_by g member) n);
}

synced_now : (o : Option Seat) → seat_synced (option_map synced_seat o) ≡ is_some o
synced_now None = refl
synced_now (Some x) = refl

pub sync_marks : (g : GroupState) (member : ℕ) → LeavesSynced g (synced_by g member) member
sync_marks g member =
    let here : member_of (synced_by g member) member ≡ option_map synced_seat (member_of g member) = synced_at g member member ∙ ap (λ (b : Bool). option_map (λ x. cond b (synced_seat x) x) (member_of g member)) (same_id member) in
    record {
      present = synced_same is_some (λ x. refl) g member member;
      generation = refl;
      joined = synced_same seat_joined (λ x. refl) g member member;
      synced = ap seat_synced here ∙ synced_now (member_of g member);
      granted = synced_same (seat_granted g.partitions) (λ x. refl) g member member;
      assigned = synced_same (seat_assigned g.partitions) (λ x. refl) g member member;
    }
