-- Completion: the next generation.
use Rattle.std.specs.Prelude.{ℕ, ◌+◌, Bool, false, ◌&&◌, ◌++◌, ◌==◌, if◌then◌else◌}
use Rattle.lane_words.specs.declared.limits.TheConstants.{LAST_GENERATION}
use Rattle.bit_planes.specs.PartitionSet.{union}
use Rattle.bit_planes.specs.SetRows.{SetRows, set_of}
use Rattle.coop_rebalance.specs.Rounds.{next_rows}
use Rattle.group_machine.specs.declared.group.Seat.{Seat}
use Rattle.group_machine.specs.declared.group.Phase.TheVariants.{Stable}
use Rattle.group_machine.specs.Slots.{all_joined_in, is_ready_in, each_changed}
use Rattle.group_machine.specs.State.{GroupState, granted_rows}
use Rattle.group_machine.specs.Moves.{moves_to, last_after}

abbrev pub all_joined : GroupState → Bool
all_joined g = all_joined_in g.slots

-- a completion happens as soon as at least one member is present and all have joined
abbrev pub is_ready : GroupState → Bool
is_ready g = is_ready_in g.slots

-- a member is assigned its next row. It goes on reading what it is granted until it revokes it, and
-- is granted what it is assigned at once (KIP-429: a member reads its retained partitions during a
-- rebalance, and a partition that moves is revoked before it is assigned). Its flags are cleared
abbrev pub completed_seat : SetRows → ℕ → Seat → Seat
completed_seat next member seat = record seat {
  joined = false;
  synced = false;
  granted = union seat.granted (set_of next member);
  assigned = set_of next member;
}

-- the next generation, with these rows assigned
abbrev pub completed_with : GroupState → SetRows → GroupState
completed_with g next = record {
  generation = g.generation + 1;
  phase = Stable;
  partitions = g.partitions;
  slots = each_changed (completed_seat next) g.slots;
  last = last_after g next;
  moves = g.moves ++ moves_to g next;
}

-- the next rows: each member's row of the sticky target, without what any other member is granted
abbrev pub next_rows_of : GroupState → SetRows
next_rows_of g = next_rows (granted_rows g)

-- the next generation
abbrev pub complete : GroupState → GroupState
complete g = completed_with g (next_rows_of g)

-- a completion would pass the last generation
abbrev pub is_over : GroupState → Bool
is_over g = is_ready g && (g.generation == LAST_GENERATION)

abbrev pub completed : GroupState → GroupState
completed g = if is_ready g then complete g else g
