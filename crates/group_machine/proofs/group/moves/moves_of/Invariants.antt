use Rattle.std.proofs.Common.{◌≡◌, None, filter_map, slice_index_or}
use Rattle.std.specs.List.{range_with_len}
use Rattle.std.specs.Option.{option_map}
use Rattle.group_machine.specs.Moves.{move_of}
use Rattle.group_machine.proofs.group.moves.moves_of.Given as goal

abbrev pub invariant-loop-partition : goal.invariant-loop-partition
invariant-loop-partition l =
    l.moves.items ≡ filter_map (λ q. option_map (move_of l.generation q (slice_index_or l.last q None)) (slice_index_or l.takers q None)) (range_with_len 0 l.partition)
