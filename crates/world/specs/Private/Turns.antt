-- The turn of a member in a settling.
use Rattle.std.specs.Prelude.{◌≡◌, ℕ, true}
use Rattle.bit_planes.specs.PartitionSet.{PartitionSet, minus}
use Rattle.group_machine.specs.State.{GroupState, assigned_of, granted_of}
use Rattle.group_machine.specs.NextSteps.{has_to_rejoin}

-- a member has to rejoin, and gives up these partitions
pub record GivesUp (g : GroupState) (m : ℕ) (given : PartitionSet) : Type 0 where
  pub due : has_to_rejoin g m ≡ true
  pub given_is : given ≡ minus (granted_of g m) (assigned_of g m)
