-- What a step preserves of the members that it is not about.
use Rattle.std.specs.Prelude.{◌≡◌, ℕ, ◌+◌, ◌≤◌, ◌⊎◌, List, Some, true, false, Ok}
use Rattle.bit_planes.specs.PartitionSet.{PartitionSet, is_in}
use Rattle.group_machine.specs.State.{GroupState, member_of, is_present, is_joined, is_synced, is_kept, granted_of, assigned_of, name_of, static_member}
use Rattle.group_machine.specs.Valid.{IsValidGroup}
use Rattle.group_machine.specs.Steps.{join_answer, rejoin_answer, take_over_answer}

-- a member is unchanged, in the same generation
pub record IsAsBefore (old new : GroupState) (n : ℕ) : Type 0 where
  pub generation : new.generation ≡ old.generation
  pub joined : is_joined new n ≡ is_joined old n
  pub synced : is_synced new n ≡ is_synced old n
  pub granted : granted_of new n ≡ granted_of old n
  pub assigned : assigned_of new n ≡ assigned_of old n

-- the next generation is complete, and in it a member has neither joined nor synced yet
pub record IsInNextGeneration (old new : GroupState) (n : ℕ) : Type 0 where
  pub generation : new.generation ≡ old.generation + 1
  pub joined : is_joined new n ≡ false
  pub synced : is_synced new n ≡ false

-- a member is present if it was, keeps its granted set, and is unchanged or in the next generation
pub record LeavesMember (old new : GroupState) (n : ℕ) : Type 0 where
  pub present : is_present new n ≡ is_present old n
  pub granted : (q : ℕ) → is_in (granted_of old n) q ≡ true → is_in (granted_of new n) q ≡ true
  pub either : IsAsBefore old new n ⊎ IsInNextGeneration old new n

-- a step about one member preserves all others, and never lowers the generation
pub record LeavesOthers (old new : GroupState) (about : ℕ) : Type 0 where
  pub partitions : new.partitions ≡ old.partitions
  pub rises : old.generation ≤ new.generation
  pub others : (n : ℕ) → (n ≡ about → ⊥) → LeavesMember old new n

-- a member that is new: it was not present, it is present now, and it has not synced
pub record IsNewcomer (old new : GroupState) (n : ℕ) : Type 0 where
  pub new_number : is_present old n ≡ false
  pub present : is_present new n ≡ true
  pub unsynced : is_synced new n ≡ false

-- the static member n has the seat of m, which is gone, under the same name: it has joined if m
-- had, and is granted and assigned what m was
pub record HasSeatOf (old new : GroupState) (m n : ℕ) : Type 0 where
  pub was_present : is_present old m ≡ true
  pub gone : is_present new m ≡ false
  pub named : name_of new n ≡ name_of old m
  pub is_static : is_kept new n ≡ true
  pub joined : is_joined new n ≡ is_joined old m
  pub granted : granted_of new n ≡ granted_of old m
  pub assigned : assigned_of new n ≡ assigned_of old m

-- the seat of m was handed on to n, which is new; all others and the generation are unchanged
pub record IsTakenOver (old new : GroupState) (m n : ℕ) : Type 0 where
  pub partitions : new.partitions ≡ old.partitions
  pub generation : new.generation ≡ old.generation
  pub newcomer : IsNewcomer old new n
  pub seat : HasSeatOf old new m n
  pub others : (k : ℕ) → (k ≡ m → ⊥) → (k ≡ n → ⊥) → member_of new k ≡ member_of old k

-- a join that is accepted, in a valid group, with the new number
pub record IsAcceptedJoin (g : GroupState) (name : List ℕ) : Type 0 where
  pub number : ℕ
  pub valid : IsValidGroup g
  pub accepted : join_answer g name ≡ Ok number

-- a rejoin that is accepted, in a valid group
pub record IsAcceptedRejoin (g : GroupState) (member : ℕ) : Type 0 where
  pub generation : ℕ
  pub claim : PartitionSet
  pub valid : IsValidGroup g
  pub accepted : rejoin_answer g member generation claim ≡ Ok tt

-- a take-over that is accepted, in a valid group, with the old and the new number
pub record IsAcceptedTakeOver (g : GroupState) (name : List ℕ) : Type 0 where
  pub member : ℕ
  pub number : ℕ
  pub valid : IsValidGroup g
  pub from : static_member g name ≡ Some member
  pub accepted : take_over_answer g name ≡ Ok number

-- a member has rejoined in the same generation, and is granted exactly what it was assigned
pub record HasRejoined (old new : GroupState) (n : ℕ) : Type 0 where
  pub generation : new.generation ≡ old.generation
  pub joined : is_joined new n ≡ true
  pub synced : is_synced new n ≡ is_synced old n
  pub granted : granted_of new n ≡ assigned_of old n
  pub assigned : assigned_of new n ≡ assigned_of old n

-- a member that rejoined is granted at least what it was assigned, and has joined or is in the next
-- generation
pub record LeavesRejoined (old new : GroupState) (n : ℕ) : Type 0 where
  pub present : is_present new n ≡ true
  pub granted : (q : ℕ) → is_in (assigned_of old n) q ≡ true → is_in (granted_of new n) q ≡ true
  pub either : HasRejoined old new n ⊎ IsInNextGeneration old new n

-- a member that synced: it has synced now, and is otherwise unchanged
pub record LeavesSynced (old new : GroupState) (n : ℕ) : Type 0 where
  pub present : is_present new n ≡ is_present old n
  pub generation : new.generation ≡ old.generation
  pub joined : is_joined new n ≡ is_joined old n
  pub synced : is_synced new n ≡ is_present old n
  pub granted : granted_of new n ≡ granted_of old n
  pub assigned : assigned_of new n ≡ assigned_of old n
