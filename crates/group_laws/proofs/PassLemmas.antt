-- Turns and passes: what each leaves as it was.
use Rattle.std.proofs.Common.{ℕ, zero, suc, ◌≡◌, ◌+◌, ◌⊎◌, inl, inr, List, [], ◌∷◌, Option, Some, None, map, slice_get, arith, ◌∙◌, Bool, true, false, ◌&&◌, ◌||◌, not, is_some, refl, ap, sym, cond}
use Rattle.std.proofs.lemmas.Bool.{false≢true}
use Rattle.bit_planes.specs.PartitionSet.{empty_set, is_same}
use Rattle.bit_planes.proofs.Sets.{both_true, same_self}
use Rattle.group_machine.specs.declared.group.Slot.{Slot}
use Rattle.group_machine.specs.declared.group.Seat.{Seat}
use Rattle.group_machine.specs.Slots.{seat_in, seat_of, and_member, present_from, present}
use Rattle.group_machine.specs.State.{GroupState, member_of, members, is_present, is_anybody, is_joined, is_synced, seat_granted, seat_assigned, granted_of, assigned_of}
use Rattle.group_machine.specs.Completion.{is_ready, completed_seat, next_rows_of, complete, completed}
use Rattle.group_machine.specs.Settled.{is_stable, agrees, all_agree, is_settled}
use Rattle.group_machine.specs.Steps.{rejoined_seat, rejoining, rejoined_by, synced_by}
use Rattle.group_machine.specs.Valid.{IsValidGroup}
use Rattle.group_machine.proofs.PresentLemmas.{Listed, listed_present, numbers_each, any_each, all_says, some_on}
use Rattle.group_machine.proofs.SlotsLemmas.{one_is_each, at_only}
use Rattle.group_machine.proofs.StepLemmas.{any_rejoining, any_of_present, sync_valid, rejoining_consistent, rejoining_disjoint}
use Rattle.group_machine.proofs.JoinLemmas.{completed_present}
use Rattle.group_laws.specs.Rounds.{rebalance_result}
use Rattle.group_machine.specs.NextSteps.{has_to_rejoin}
use Rattle.group_laws.specs.Passes.{synced_if_new, rejoined_if_due, after_turn, after_turns, after_pass}
use Rattle.group_laws.proofs.AssignedLemmas.{has_partitions}
use Rattle.group_laws.proofs.StepLemmas.{any_synced, synced_same, rejoin_valid}
use Rattle.group_laws.proofs.OtherLemmas.{rejoining_at}
use Rattle.group_laws.proofs.ResultLemmas.{completed_result, sync_result, rejoining_result}

and_listed : (n m : ℕ) (o : Option Seat) (rows : List (ℕ × Seat)) → ((n ≡ m) × (x : Seat) × (o ≡ Some x)) ⊎ Listed n (map (λ r. r.0) rows) → Listed n (map (λ r. r.0) (and_member m o rows))
and_listed n m None rows (inl h) = let none = h.2 in cc
and_listed n m None rows (inr at) = at
and_listed n m (Some x) rows (inl h) = inl h.0
and_listed n m (Some x) rows (inr at) = inr at

from_listed : (n m : ℕ) (slots : List Slot) (k : ℕ) (x : Seat) → n ≡ m + k → seat_in (slice_get slots k) ≡ Some x → Listed n (map (λ r. r.0) (present_from m slots))
from_listed n m [] k x e is = cc
from_listed n m (s ∷ slots) zero x e is = and_listed n m s.seat (present_from (suc m) slots) (inl (omega (arith, e), x, is))
from_listed n m (s ∷ slots) (suc k) x e is = and_listed n m s.seat (present_from (suc m) slots) (inr (from_listed n (suc m) slots k x (omega (arith, e)) is))

pub present_listed : (slots : List Slot) (member : ℕ) (x : Seat) → seat_of slots member ≡ Some x → Listed member (map (λ r. r.0) (present slots))
present_listed slots zero x is = cc
present_listed slots (suc k) x is = from_listed (suc k) 1 slots k x (omega arith) is

pub rejoining_present : (g : GroupState) (member n : ℕ) → is_present (rejoining g member) n ≡ is_present g n
rejoining_present g member n = ap is_some (rejoining_at g member n) ∙ some_on (at_only member rejoined_seat n) (member_of g n)

pub rejoined_present : (g : GroupState) (member n : ℕ) → is_present (rejoined_by g member) n ≡ is_present g n
rejoined_present g member n = completed_present (rejoining g member) n ∙ rejoining_present g member n

pub synced_present : (g : GroupState) (member n : ℕ) → is_present (synced_by g member) n ≡ is_present g n
synced_present g member n = synced_same is_some (λ x. refl) g member n

completed_any : (g : GroupState) → is_anybody (completed g) ≡ is_anybody g
completed_any g = go (is_ready g)
  where
    go : (b : Bool) → is_anybody (cond b (complete g) g) ≡ is_anybody g
    go true = any_each (completed_seat (next_rows_of g)) g.slots
    go false = refl

pub rejoined_any : (g : GroupState) (member : ℕ) → is_anybody (rejoined_by g member) ≡ is_anybody g
rejoined_any g member = completed_any (rejoining g member) ∙ any_rejoining g member

-- ---- the sync of a turn, for one that is new
pub new_same : {X : Type 0} (h : GroupState → X) (g : GroupState) (member : ℕ) → h (synced_by g member) ≡ h g → h (synced_if_new g member) ≡ h g
unfolding synced_if_new
new_same h g member same = go (is_joined g member || is_synced g member)
  where
    go : (b : Bool) → h (cond b g (synced_by g member)) ≡ h g
    go true = refl
    go false = same

pub new_valid : (g : GroupState) (member : ℕ) → IsValidGroup g → IsValidGroup (synced_if_new g member)
unfolding synced_if_new
new_valid g member valid = go (is_joined g member || is_synced g member)
  where
    go : (b : Bool) → IsValidGroup (cond b g (synced_by g member))
    go true = valid
    go false = sync_valid g member valid

-- ---- the rejoin of a turn, for one that has to
due_same : {X : Type 0} (h : GroupState → X) (g : GroupState) (member : ℕ) → h (rejoined_by g member) ≡ h g → h (rejoined_if_due g member) ≡ h g
unfolding rejoined_if_due
due_same h g member same = go (has_to_rejoin g member)
  where
    go : (b : Bool) → h (cond b (rejoined_by g member) g) ≡ h g
    go true = same
    go false = refl

due_valid : (g : GroupState) (member : ℕ) → IsValidGroup g → is_present g member ≡ true → IsValidGroup (rejoined_if_due g member)
unfolding rejoined_if_due
due_valid g member valid here = go (has_to_rejoin g member)
  where
    go : (b : Bool) → IsValidGroup (cond b (rejoined_by g member) g)
    go true = rejoin_valid g member valid here
    go false = valid

seat_same : (p : ℕ) (o : Option Seat) → ((x : Seat) → o ≡ Some x → agrees x ≡ true) → is_same (seat_granted p o) (seat_assigned p o) ≡ true
seat_same p None agree = same_self (empty_set p)
seat_same p (Some x) agree = agree x refl

pub settled_same : (g : GroupState) (member : ℕ) → is_settled g ≡ true → is_same (granted_of g member) (assigned_of g member) ≡ true
settled_same g member settled =
    let all : all_agree g ≡ true = (both_true (is_stable g.phase) (all_agree g) settled).1 in
    seat_same g.partitions (member_of g member) (λ x is. all_says agrees g.slots member x all is)

not_due : (joined stable same : Bool) → stable ≡ true → same ≡ true → (not joined && (not stable || not same)) ≡ false
not_due true stable same s e = refl
not_due false stable same s e = rw (s, e) refl

pub settled_not_due : (g : GroupState) (member : ℕ) → is_settled g ≡ true → has_to_rejoin g member ≡ false
settled_not_due g member settled = not_due (is_joined g member) (is_stable g.phase) (is_same (granted_of g member) (assigned_of g member)) (both_true (is_stable g.phase) (all_agree g) settled).0 (settled_same g member settled)

due_unsettled : (g : GroupState) (member : ℕ) → has_to_rejoin g member ≡ true → is_settled g ≡ false
due_unsettled g member due = go (is_settled g) refl
  where
    go : (b : Bool) → is_settled g ≡ b → is_settled g ≡ false
    go true e = absurd (false≢true (sym (settled_not_due g member e) ∙ due))
    go false e = e

due_result : (g : GroupState) (member : ℕ) → IsValidGroup g → is_present g member ≡ true → rebalance_result (rejoined_if_due g member) ≡ rebalance_result g
unfolding rejoined_if_due
due_result g member valid here = go (has_to_rejoin g member) refl
  where
    go : (b : Bool) → has_to_rejoin g member ≡ b → rebalance_result (cond b (rejoined_by g member) g) ≡ rebalance_result g
    go true e =
        completed_result (rejoining g member) (has_partitions g valid.sized) (rejoining_consistent g member valid.consistent) (rejoining_disjoint g member valid.consistent valid.disjoint) refl
        ∙ rejoining_result g member (any_of_present g member here) (due_unsettled g member e)
    go false e = refl

-- ---- a turn
pub new_present : (g : GroupState) (member n : ℕ) → is_present (synced_if_new g member) n ≡ is_present g n
new_present g member n = new_same (λ s. is_present s n) g member (synced_present g member n)

pub after_turn_valid : (g : GroupState) (member : ℕ) → IsValidGroup g → is_present g member ≡ true → IsValidGroup (after_turn g member)
after_turn_valid g member valid here = due_valid (synced_if_new g member) member (new_valid g member valid) (new_present g member member ∙ here)

pub after_turn_present : (g : GroupState) (member n : ℕ) → is_present (after_turn g member) n ≡ is_present g n
after_turn_present g member n =
    due_same (λ s. is_present s n) (synced_if_new g member) member (rejoined_present (synced_if_new g member) member n)
    ∙ new_present g member n

pub after_turn_any : (g : GroupState) (member : ℕ) → is_anybody (after_turn g member) ≡ is_anybody g
after_turn_any g member =
    due_same is_anybody (synced_if_new g member) member (rejoined_any (synced_if_new g member) member)
    ∙ new_same is_anybody g member (any_synced g member)

pub after_turn_result : (g : GroupState) (member : ℕ) → IsValidGroup g → is_present g member ≡ true → rebalance_result (after_turn g member) ≡ rebalance_result g
after_turn_result g member valid here =
    due_result (synced_if_new g member) member (new_valid g member valid) (new_present g member member ∙ here)
    ∙ new_same rebalance_result g member (sync_result g member)

-- ---- a pass
abbrev pub ArePresent : GroupState → List ℕ → Type 0
ArePresent g ms = (n : ℕ) → Listed n ms → is_present g n ≡ true

members_present : (g : GroupState) → ArePresent g (members g)
members_present g n listed = let x = listed_present g.slots n listed in ap is_some x.1

present_behind : (g : GroupState) (member : ℕ) (rest : List ℕ) → ArePresent g (member ∷ rest) → ArePresent (after_turn g member) rest
present_behind g member rest here n listed = after_turn_present g member n ∙ here n (inr listed)

each_same : {X : Type 0} (h : GroupState → X) → ((g : GroupState) (member : ℕ) → h (after_turn g member) ≡ h g) → (g : GroupState) (ms : List ℕ) → h (after_turns g ms) ≡ h g
each_same h same g [] = refl
each_same h same g (m ∷ ms) = each_same h same (after_turn g m) ms ∙ same g m

after_pass_same : {X : Type 0} (h : GroupState → X) → ((g : GroupState) (member : ℕ) → h (after_turn g member) ≡ h g) → (g : GroupState) → h (after_pass g) ≡ h g
unfolding after_pass
after_pass_same h same g = each_same h same g (members g)

pub after_pass_any : (g : GroupState) → is_anybody (after_pass g) ≡ is_anybody g
after_pass_any g = after_pass_same is_anybody after_turn_any g

-- what each turn keeps, by the members that are left, a pass keeps
abbrev pub IsPreserved : (GroupState → List ℕ → Type 0) → Type 0
IsPreserved holds = (g : GroupState) (member : ℕ) (rest : List ℕ) → IsValidGroup g → is_present g member ≡ true → holds g (member ∷ rest) → holds (after_turn g member) rest

each_preserves : (holds : GroupState → List ℕ → Type 0) → IsPreserved holds → (g : GroupState) (ms : List ℕ) → IsValidGroup g → ArePresent g ms → holds g ms → holds (after_turns g ms) []
each_preserves holds is_preserved g [] valid here first = first
each_preserves holds is_preserved g (m ∷ ms) valid here first =
    let at : is_present g m ≡ true = here m (inl refl) in
    each_preserves holds is_preserved (after_turn g m) ms (after_turn_valid g m valid at) (present_behind g m ms here) (is_preserved g m ms valid at first)

pub after_pass_preserves : (holds : GroupState → List ℕ → Type 0) → IsPreserved holds → (g : GroupState) → IsValidGroup g → holds g (members g) → holds (after_pass g) []
unfolding after_pass
after_pass_preserves holds is_preserved g valid first = each_preserves holds is_preserved g (members g) valid (members_present g) first

pub after_pass_valid : (g : GroupState) → IsValidGroup g → IsValidGroup (after_pass g)
after_pass_valid g valid = after_pass_preserves (λ s rest. IsValidGroup s) (λ s m rest v here held. after_turn_valid s m v here) g valid valid

pub after_pass_result : (g : GroupState) → IsValidGroup g → rebalance_result (after_pass g) ≡ rebalance_result g
after_pass_result g valid = after_pass_preserves (λ s rest. rebalance_result s ≡ rebalance_result g) (λ s m rest v here same. after_turn_result s m v here ∙ same) g valid refl
