use Rattle.std.proofs.Common.{◌≡◌, ◌≤◌, Ok, drop, length, map, take}
use Rattle.std.specs.Vec.Iter.{into_iter_items, into_iter_len}
use Rattle.parallel.proofs.collect.collected.Given as goal

abbrev pub invariant-loop-one : goal.invariant-loop-one
invariant-loop-one g l = record {
  within : length l.values.items ≤ length l.fn.results.items;
  rest : into_iter_items l.one-iterator ≡ drop (length l.values.items) l.fn.results.items;
  len : into_iter_len l.one-iterator ≡ length (into_iter_items l.one-iterator);
  before : take (length l.values.items) l.fn.results.items ≡ map Ok l.values.items;
}
