use Rattle.std.proofs.Common.{◌≡◌, ◌++◌, map, take, drop}
use Rattle.csv_ingest.specs.KeyFile.{key_behind}
use Rattle.key_index.specs.Keys.{lent}
use Rattle.partition_log.proofs.tables.drop_topics.Given as goal

abbrev pub invariant-loop-i : goal.invariant-loop-i
invariant-loop-i l = lent l.keys ≡ map key_behind (take l.i (lent l.fn.keys)) ++ drop l.i (lent l.fn.keys)
