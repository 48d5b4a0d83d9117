use Rattle.std.proofs.Common.{◌≡◌, drop, length, map, vec_items}
use Rattle.partition_log.specs.Private.Filled.{filled}
use Rattle.partition_log.specs.Private.Shares.{filled_by, read_chunks}
use Rattle.partition_log.proofs.shares.fill_share.Given as goal

abbrev pub invariant-loop-i : goal.invariant-loop-i
invariant-loop-i l = record {
  each : length l.logs.items ≡ l.partitions;
  filled_is : filled (map vec_items l.logs.items) (read_chunks l.tables.places.items l.workers (drop l.i l.chunks)) (read_chunks l.tables.numbers.items l.workers (drop l.i l.chunks)) ≡ filled_by l.partitions l.workers l.tables l.chunks;
}
