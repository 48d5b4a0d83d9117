-- The view of a group's fields.
use Rattle.group_machine.specs.State.{GroupState}
use Rattle.group_machine.specs.declared.group.Group.{Group}

abbrev pub group_view : Group → GroupState
group_view g = record {
  generation = g.generation;
  phase = g.phase;
  partitions = g.partitions;
  slots = g.slots.items;
  last = g.last.items;
  moves = g.moves.items;
}
