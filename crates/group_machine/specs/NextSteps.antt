-- What a member does next.
use Rattle.std.specs.Prelude.{ℕ, Bool, ◌&&◌, ◌||◌, not, if◌then◌else◌}
use Rattle.bit_planes.specs.PartitionSet.{is_same}
use Rattle.group_machine.specs.Settled.{is_stable}
use Rattle.group_machine.specs.State.{GroupState, assigned_of, granted_of, is_joined, is_synced}
use Rattle.group_machine.specs.declared.cluster.next_step.NextStep.{NextStep}
use Rattle.group_machine.specs.declared.cluster.next_step.NextStep.TheVariants.{Read, Rejoin, Sync}

-- a member has to rejoin: it has not joined, and has something to revoke or a rebalance is pending
abbrev pub has_to_rejoin : GroupState → ℕ → Bool
has_to_rejoin g member =
    not (is_joined g member)
    && (not (is_stable g.phase) || not (is_same (granted_of g member) (assigned_of g member)))

-- a member syncs that has neither joined nor synced; else it rejoins if it has to, and reads if not
abbrev pub next_step : GroupState → ℕ → NextStep
next_step g member =
    if is_joined g member || is_synced g member
    then if has_to_rejoin g member then Rejoin else Read
    else Sync
