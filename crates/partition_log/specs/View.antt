-- How contracts see logs.
use Rattle.std.specs.Prelude.{map, vec_items}
use Rattle.std.specs.List.{sum}
use Rattle.partition_log.specs.Logs.{PartitionLogs}
use Rattle.partition_log.specs.declared.Logs.TheInside.{Inside}

abbrev pub logs_view : Inside → PartitionLogs
logs_view l = record {
  counts = l.partitions;
  partitions = sum l.partitions;
  keys = l.keys;
  logs = map vec_items l.logs.items;
}
