-- The totals of what was counted.
use Rattle.std.proofs.Common.{◌≡◌, ◌∙◌, ◌^◌, ◌<◌, ℕ, List, Result, Ok, Err, map, ap, arith}
use Rattle.std.specs.Prelude.{All, IfOk, drop}
use Rattle.key_index.specs.Keys.{Key, distinct}
use Rattle.key_counts.specs.Counts.{Entries, total}
use Rattle.key_counts.specs.Merging.{Parted}
use Rattle.key_counts.specs.Partition.{HasCounts}
use Rattle.key_counts.specs.Segments.{counts_of, is_key, keys_behind, keys_of, merged_counts}
use Rattle.key_counts.specs.declared.merging.Segment.{Segment}
use Rattle.key_counts.proofs.Segmented.{merged-counts-taken, same-firsts, total-within}
use Rattle.key_stream.specs.Counting.{occurrences}
use Rattle.key_stream.specs.Tally.{HaveCounted}
use Rattle.key_stream.specs.declared.tally.Counters.{Counters}

pub totals-fit : (skip : ℕ) (keys : List Key) (counters : Counters) → HaveCounted keys counters → All HasCounts counters.workers.items
    → (x : Key) → total (is_key x) (keys_behind skip counters.workers.items counters.segments.items) (counts_of counters.workers.items counters.segments.items) < 2 ^ 64
totals-fit skip keys counters so all x =
    let within = total-within skip x keys counters.workers.items counters.segments.items so.lens all so.taken so.parts in
    omega (arith, within, so.few)

pub keys-are : (skip : ℕ) {E : Type 0} (keys : List Key) (counters : Counters) (result : Result Parted E) → HaveCounted keys counters
    → IfOk result (λ m. m.keys ≡ distinct (keys_behind skip counters.workers.items counters.segments.items)) → IfOk result (λ m. m.keys ≡ distinct (map (drop skip) keys))
keys-are skip keys counters (Err e) so is = tt
keys-are skip keys counters (Ok m) so is = is ∙ same-firsts (drop skip) (keys_of counters.workers.items counters.segments.items) keys so.taken.same_order

pub counts-are : (skip : ℕ) {E : Type 0} (keys : List Key) (counters : Counters) (result : Result Parted E) → HaveCounted keys counters → All HasCounts counters.workers.items
    → IfOk result (λ m. m.counts ≡ merged_counts skip counters.workers.items counters.segments.items) → IfOk result (λ m. m.counts ≡ occurrences (map (drop skip) keys))
counts-are skip keys counters (Err e) so all is = tt
counts-are skip keys counters (Ok m) so all is = is ∙ merged-counts-taken skip keys counters.workers.items counters.segments.items so.lens all so.taken so.parts
