use Rattle.std.proofs.Common.{◌≡◌, drop, length, map, vec_items}
use Rattle.partition_log.specs.Private.Filled.{filled}
use Rattle.partition_log.specs.Private.Shares.{numbers_in, places_in}
use Rattle.partition_log.proofs.shares.fill_chunk.Given as goal

abbrev pub invariant-loop-k : goal.invariant-loop-k
invariant-loop-k l = record {
  each : length l.logs.items ≡ length l.initial.logs.items;
  filled_is : filled (map vec_items l.logs.items) (drop l.k (places_in l.chunk)) (drop l.k (numbers_in l.chunk)) ≡ filled (map vec_items l.initial.logs.items) (places_in l.chunk) (numbers_in l.chunk);
}
