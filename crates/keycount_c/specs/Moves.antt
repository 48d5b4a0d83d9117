-- A move as C has it.
use Rattle.std.specs.Prelude.{unwrap_or}
use Rattle.group_machine.specs.declared.group.Move.{Move}
use Rattle.keycount_c.specs.declared.lists.MoveRow.{MoveRow}

abbrev pub row_of_move : Move → MoveRow
row_of_move m = record {
  generation = m.generation;
  partition = m.partition;
  last = unwrap_or m.last 0;
  holder = m.holder;
}
