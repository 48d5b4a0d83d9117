-- Passes: each present member takes one turn, in rising order.
use Rattle.std.specs.Prelude.{ℕ, Bool, ◌&&◌, ◌||◌, List, [], ◌∷◌, if◌then◌else◌}
use Rattle.std.specs.List.{list_all}
use Rattle.group_machine.specs.NextSteps.{has_to_rejoin}
use Rattle.group_machine.specs.State.{GroupState, members, is_joined, is_synced}
use Rattle.group_machine.specs.Settled.{is_settled}
use Rattle.group_machine.specs.Steps.{rejoined_by, synced_by}

-- the group is settled, and all members have synced
abbrev pub is_settled_and_synced : GroupState → Bool
is_settled_and_synced g = is_settled g && list_all (is_synced g) (members g)

-- a member syncs if it has neither joined nor synced
unfoldable pub synced_if_new : GroupState → ℕ → GroupState
synced_if_new g member =
    if is_joined g member || is_synced g member then g else synced_by g member

-- a member rejoins if it has to
unfoldable pub rejoined_if_due : GroupState → ℕ → GroupState
rejoined_if_due g member = if has_to_rejoin g member then rejoined_by g member else g

-- a member's turn: it syncs if it is new, and rejoins if it then has to
abbrev pub after_turn : GroupState → ℕ → GroupState
after_turn g member = rejoined_if_due (synced_if_new g member) member

-- the turns of these members, one after the other
abbrev pub after_turns : GroupState → List ℕ → GroupState
after_turns g [] = g
after_turns g (member ∷ rest) = after_turns (after_turn g member) rest

-- one pass: the turns of all present members, in rising order
unfoldable pub after_pass : GroupState → GroupState
after_pass g = after_turns g (members g)
