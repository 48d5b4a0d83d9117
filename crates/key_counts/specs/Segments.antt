-- The entries of several workers in the order in which the chunks of a file brought them.
use Rattle.std.specs.Prelude.{◌≤◌, ◌<◌, ◌==◌, ℕ, false, List, drop, filter, flat_map, length, map, slice_index_or, slice_range, cond}
use Rattle.std.specs.Str.{bytes_eq}
use Rattle.key_index.specs.Keys.{Key, distinct}
use Rattle.key_counts.specs.Counts.{Entries, no_entries, total}
use Rattle.key_counts.specs.declared.merging.Segment.{Segment}

-- the entries of a worker; none if there is no such worker
abbrev pub entries_of : List Entries → ℕ → Entries
entries_of workers w = slice_index_or workers w (no_entries false)

-- the keys of the entries of a segment, and how many records each took
abbrev pub keys_in : List Entries → Segment → List Key
keys_in workers s = slice_range (entries_of workers s.worker).keys s.from s.to

abbrev pub counts_in : List Entries → Segment → List ℕ
counts_in workers s = slice_range (entries_of workers s.worker).counts s.from s.to

-- the same of segments, one after another
abbrev pub keys_of : List Entries → List Segment → List Key
keys_of workers segments = flat_map (keys_in workers) segments

abbrev pub counts_of : List Entries → List Segment → List ℕ
counts_of workers segments = flat_map (counts_in workers) segments

-- the segments of one worker
abbrev pub segments_of : ℕ → List Segment → List Segment
segments_of w segments = filter (λ s. s.worker == w) segments

-- the keys of segments, each without so many of its first bytes
abbrev pub keys_behind : ℕ → List Entries → List Segment → List Key
keys_behind skip workers segments = map (drop skip) (keys_of workers segments)

-- a segment is a part of a worker's entries
pub record IsSegment (workers : List Entries) (s : Segment) : Type 0 where
  pub worker : s.worker < length workers
  pub order : s.from ≤ s.to
  pub within : s.to ≤ length (entries_of workers s.worker).keys

-- 1 for this key, 0 for any other
abbrev pub is_key : Key → Key → ℕ
is_key x key = cond (bytes_eq x key) 1 0

-- the records of each of these keys that entries took
abbrev pub totals_of : List Key → List Key → List ℕ → List ℕ
totals_of names keys counts = map (λ x. total (is_key x) keys counts) names

-- how many records each key of segments has without its first bytes, in the order of first
-- appearance
abbrev pub merged_counts : ℕ → List Entries → List Segment → List ℕ
merged_counts skip workers segments =
    let keys = keys_behind skip workers segments in
    totals_of (distinct keys) keys (counts_of workers segments)
