-- Moves: which member takes which partition at a completion.
use Rattle.std.specs.Prelude.{ℕ, ◌+◌, Bool, ◌&&◌, not, List, Option, Some, None, find, map, filter_map, length, slice_index_or, if◌then◌else◌}
use Rattle.std.specs.List.{range_with_len}
use Rattle.std.specs.Option.{option_map, option_or}
use Rattle.bit_planes.specs.PartitionSet.{PartitionSet, is_in}
use Rattle.bit_planes.specs.SetRows.{SetRows, set_of}
use Rattle.group_machine.specs.declared.group.Move.{Move}
use Rattle.group_machine.specs.State.{GroupState, granted_of, granted_rows}

-- a member takes a partition that is in its next row and not yet granted to it
abbrev pub takes : GroupState → SetRows → ℕ → ℕ → Bool
takes g next q member = is_in (set_of next member) q && not (is_in (granted_of g member) q)

-- the member that takes a partition, if one does
abbrev pub taker_in : List (ℕ × PartitionSet) → SetRows → ℕ → Option ℕ
taker_in granted next q =
    option_map (λ row. row.0)
    (find (λ row. is_in (set_of next row.0) q && not (is_in row.1 q)) granted)

-- the taker of each partition
abbrev pub takers_in : SetRows → SetRows → List (Option ℕ)
takers_in granted next = map (taker_in granted.rows next) (range_with_len 0 granted.partitions)

-- the present member that takes a partition, if one does
abbrev pub taker : GroupState → SetRows → ℕ → Option ℕ
taker g next q = taker_in (granted_rows g).rows next q

abbrev pub takers : GroupState → SetRows → List (Option ℕ)
takers g next = takers_in (granted_rows g) next

-- the move of a partition from its last holder to a new one
abbrev pub move_of : ℕ → ℕ → Option ℕ → ℕ → Move
move_of generation q last holder = record {
  generation = generation;
  partition = q;
  last = last;
  holder = holder;
}

-- one move for each partition that is taken, in rising order
abbrev pub moves_by : ℕ → List (Option ℕ) → List (Option ℕ) → List Move
moves_by generation takers last =
    filter_map
    (λ q.
    option_map (move_of generation q (slice_index_or last q None))
    (slice_index_or takers q None))
    (range_with_len 0 (length takers))

-- the last holders afterwards: the taker of a partition, or its last holder before
abbrev pub last_by : List (Option ℕ) → List (Option ℕ) → List (Option ℕ)
last_by takers last =
    map (λ q. option_or (slice_index_or takers q None) (slice_index_or last q None))
    (range_with_len 0 (length last))

-- the last holders after a member got these partitions
abbrev pub held_by : ℕ → PartitionSet → List (Option ℕ) → List (Option ℕ)
held_by member granted last =
    map (λ q. if is_in granted q then Some member else slice_index_or last q None)
    (range_with_len 0 (length last))

-- the moves of a completion with these rows
abbrev pub moves_to : GroupState → SetRows → List Move
moves_to g next = moves_by (g.generation + 1) (takers g next) g.last

-- the last holders after it
abbrev pub last_after : GroupState → SetRows → List (Option ℕ)
last_after g next = last_by (takers g next) g.last
