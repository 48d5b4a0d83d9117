use Rattle.std.proofs.Common.{◌≡◌, ◌≤◌, drop, length, take}
use Rattle.std.specs.Vec.Iter.{into_iter_items, into_iter_len}
use Rattle.key_stream.specs.Rounds.{entries_in}
use Rattle.key_stream.proofs.tally.counters_of.Given as goal

abbrev pub invariant-loop-worker : goal.invariant-loop-worker
invariant-loop-worker l = record {
  within : length l.counters.items ≤ length l.fn.workers.items;
  rest : into_iter_items l.worker-iterator ≡ drop (length l.counters.items) l.fn.workers.items;
  len : into_iter_len l.worker-iterator ≡ length (into_iter_items l.worker-iterator);
  before : l.counters.items ≡ entries_in (take (length l.counters.items) l.fn.workers.items);
}
