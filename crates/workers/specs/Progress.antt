-- A cluster and the plan that is applied to it.
use Rattle.std.specs.Prelude.{◌≡◌, ℕ, ◌+◌, ◌≤◌, Bool, true, false, ◌&&◌, ◌||◌, List, Option, Some, None, is_some, length, slice_get, take, if◌then◌else◌}
use Rattle.group_machine.specs.State.{GroupState}
use Rattle.group_machine.specs.declared.group.Phase.{Phase}
use Rattle.group_machine.specs.declared.group.Phase.TheVariants.{Empty, Preparing, Stable}
use Rattle.group_laws.specs.Rounds.{rebalance_result}
use Rattle.group_machine.specs.Settled.{is_settled}
use Rattle.group_machine.specs.Valid.{IsValidGroup}
use Rattle.group_machine.specs.Cluster.{ClusterState, with_group}
use Rattle.script.specs.declared.plan.Change.{Change}
use Rattle.script.specs.Plan.{IsPlan}
use Rattle.workers.specs.Plans.{changed_by, settled}

-- the cluster, the plan, and the number of its lines that were applied
pub record Progress : Type 0 where
  pub cluster : ClusterState
  pub plan : List Change
  pub applied : ℕ

abbrev pub is_empty : Phase → Bool
is_empty Empty = true
is_empty Preparing = false
is_empty Stable = false

-- no rebalance is under way: the group is empty or settled
abbrev pub is_at_rest : GroupState → Bool
is_at_rest g = is_empty g.phase || is_settled g

-- the next line of the plan, if one is left
abbrev pub next_line : Progress → Option Change
next_line s = slice_get s.plan s.applied

-- the next line may be applied: one is left, and no rebalance is under way
abbrev pub is_due : Progress → Bool
is_due s = is_some (next_line s) && is_at_rest s.cluster.group

-- a step of the group alone
abbrev pub regrouped : Progress → GroupState → Progress
regrouped s group = record s { cluster = with_group s.cluster group }

-- one more line applied
abbrev pub applied_to : Progress → Option Change → Progress
applied_to s None = s
applied_to s (Some change) = record s {
  cluster = with_group s.cluster (changed_by s.cluster.group change);
  applied = s.applied + 1;
}

-- the next line applied, if it is due
abbrev pub advanced : Progress → Progress
advanced s = if is_due s then applied_to s (next_line s) else s

-- The invariant, whatever the members did in between: the group and the plan are valid, and the
-- rebalance under way ends in the result of the applied lines
pub record IsValidProgress (s : Progress) : Type 0 where
  pub valid : IsValidGroup s.cluster.group
  pub plan : IsPlan s.plan
  pub within : s.applied ≤ length s.plan
  pub end : rebalance_result s.cluster.group
      ≡ settled s.cluster.group.partitions (take s.applied s.plan)
