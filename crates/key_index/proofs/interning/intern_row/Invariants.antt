use Rattle.std.proofs.Common.{◌≡◌, ◌++◌, map, take}
use Rattle.key_index.specs.Keys.{id_of}
use Rattle.key_index.specs.Private.Sharded.{with_keys}
use Rattle.key_index.proofs.interning.intern_row.Given as goal

abbrev pub invariant-loop-k : goal.invariant-loop-k
invariant-loop-k l = record {
  table : l.table ≡ with_keys l.fn.table (take l.k l.row);
  local_ids : l.local_ids.items ≡ l.fn.local_ids.items ++ map (id_of (with_keys l.fn.table l.row)) (take l.k l.row);
}
