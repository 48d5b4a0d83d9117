use Rattle.std.proofs.Common.{◌≡◌, ◌≤◌, ◌++◌}
use Rattle.std.specs.Prelude.{slice_range}
use Rattle.key_index.specs.Keys.{lent}
use Rattle.partition_log.proofs.tables.add_keys.Given as goal

abbrev pub invariant-loop-code : goal.invariant-loop-code
invariant-loop-code l = record {
  within : l.fn.segment.from ≤ l.code;
  keys : lent l.keys.items ≡ lent l.fn.keys.items ++ slice_range l.entries.keys l.fn.segment.from l.code;
}
