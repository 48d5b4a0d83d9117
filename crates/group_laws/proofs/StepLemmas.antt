-- A group is valid after each step, and what a sync leaves as it was.
use Rattle.std.proofs.Common.{◌≡◌, Bool, true, false, refl, cond, ℕ, ◌<◌, List, Option, Some, length}
use Rattle.lane_words.specs.declared.limits.TheConstants.{MOST_MEMBERS}
use Rattle.group_machine.specs.declared.group.Seat.{Seat}
use Rattle.group_machine.specs.State.{GroupState, member_of, members, is_present, is_anybody}
use Rattle.group_machine.specs.Completion.{is_ready, complete, completed}
use Rattle.group_machine.specs.Valid.{IsValidGroup}
use Rattle.group_machine.specs.Private.Changes.{IsChanged}
use Rattle.group_machine.specs.Settled.{is_settled}
use Rattle.group_machine.specs.Steps.{joining, joined_by, rejoining, rejoined_by, synced_seat, synced_by, leaving, left_by}
use Rattle.group_machine.proofs.CompletionLemmas.{next_valid, complete_valid}
use Rattle.group_machine.proofs.StepLemmas.{joining_changed, rejoining_changed, leaving_changed, flag_same, any_flag, members_flag, settled_flag, sync_flag}

pub completed_valid : (g : GroupState) → IsChanged g → IsValidGroup (completed g)
completed_valid g n = go (is_ready g) refl
  where
    go : (b : Bool) → is_ready g ≡ b → IsValidGroup (cond b (complete g) g)
    go true e = complete_valid g n e
    go false e = next_valid g n e

pub join_valid : (g : GroupState) (name : List ℕ) → IsValidGroup g → length g.slots < MOST_MEMBERS → IsValidGroup (joined_by g name)
join_valid g name valid capacity = completed_valid (joining g name) (joining_changed g name valid capacity)

pub rejoin_valid : (g : GroupState) (member : ℕ) → IsValidGroup g → is_present g member ≡ true → IsValidGroup (rejoined_by g member)
rejoin_valid g member valid here = completed_valid (rejoining g member) (rejoining_changed g member valid here)

pub leave_valid : (g : GroupState) (member : ℕ) → IsValidGroup g → is_present g member ≡ true → IsValidGroup (left_by g member)
leave_valid g member valid here = completed_valid (leaving g member) (leaving_changed g member valid here)

pub synced_same : {X : Type 0} (h : Option Seat → X) → ((x : Seat) → h (Some (synced_seat x)) ≡ h (Some x)) → (g : GroupState) (member m : ℕ) → h (member_of (synced_by g member) m) ≡ h (member_of g m)
synced_same h same g member m = flag_same synced_seat h same g member m

pub any_synced : (g : GroupState) (member : ℕ) → is_anybody (synced_by g member) ≡ is_anybody g
any_synced g member = any_flag synced_seat g member

pub settled_synced : (g : GroupState) (member : ℕ) → is_settled (synced_by g member) ≡ is_settled g
settled_synced g member = settled_flag synced_seat sync_flag g member
