use Rattle.std.proofs.Common.{◌≡◌, ◌+◌, ◌++◌, drop, length}
use Rattle.key_counts.specs.Segments.{keys_of}
use Rattle.partition_log.specs.Private.Tables.{own_values}
use Rattle.partition_log.proofs.tables.table_for.Given as goal

abbrev pub invariant-loop-i : goal.invariant-loop-i
invariant-loop-i l = record {
  len : l.at + length (keys_of l.taken.workers.now (drop l.i l.taken.segments.now)) ≡ length l.all;
  own : l.table.items ++ own_values l.w (drop l.i l.taken.segments.now) (drop l.at l.all) ≡ own_values l.w l.taken.segments.now l.all;
}
