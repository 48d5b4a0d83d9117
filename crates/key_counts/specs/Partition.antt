-- Segments that hold each entry of their workers once.
use Rattle.std.specs.Prelude.{◌≡◌, ◌<◌, ◌-◌, ◌+◌, ◌++◌, ℕ, List, length, map, slice_index, sum_by}
use Rattle.key_index.specs.Keys.{Key}
use Rattle.lane_words.specs.Sums.{sum_below}
use Rattle.key_counts.specs.Counts.{Entries}
use Rattle.key_counts.specs.Segments.{entries_of}
use Rattle.key_counts.specs.declared.merging.Segment.{Segment}

-- as many counts as keys
abbrev pub HasCounts : Entries → Type 0
HasCounts entries = length entries.counts ≡ length entries.keys

-- how many entries each worker has
abbrev pub lens_of : List Entries → List ℕ
lens_of workers = map (λ entries. length entries.keys) workers

-- the sum of a function of worker and code over a segment
abbrev pub sum_over : (ℕ → ℕ → ℕ) → Segment → ℕ
sum_over f s = sum_below (s.to - s.from) (λ c. f s.worker (s.from + c))

-- each entry of workers that have so many stands in one segment: whatever is summed up, the sum
-- over the segments is that over all entries
abbrev pub AreAll : List ℕ → List Segment → Type 0
AreAll lens segments =
    (f : ℕ → ℕ → ℕ)
    → sum_by (sum_over f) segments
    ≡ sum_below (length lens) (λ w. sum_below (slice_index lens w) (f w))

-- workers whose entries grew: each keeps the keys that it had
pub record AreGrown (olds news : List Entries) : Type 0 where
  pub len : length news ≡ length olds
  pub each : (w : ℕ) → w < length olds
      → (added : List Key) × ((entries_of news w).keys ≡ (entries_of olds w).keys ++ added)
