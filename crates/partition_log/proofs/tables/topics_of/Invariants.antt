use Rattle.std.proofs.Common.{◌≡◌, map, take}
use Rattle.csv_ingest.specs.KeyFile.{topic_of}
use Rattle.key_index.specs.Keys.{lent}
use Rattle.partition_log.proofs.tables.topics_of.Given as goal

abbrev pub invariant-loop-i : goal.invariant-loop-i
invariant-loop-i l = l.topics.items ≡ map topic_of (take l.i (lent l.keys))
