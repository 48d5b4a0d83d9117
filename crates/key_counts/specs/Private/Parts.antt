-- The entries of one segment.
use Rattle.std.specs.Prelude.{◌≤◌, ℕ, List, drop, length, map, slice_range}
use Rattle.key_index.specs.Keys.{Key}
use Rattle.key_counts.specs.Counts.{Entries}
use Rattle.key_counts.specs.declared.merging.Segment.{Segment}

-- a segment is a part of these entries
pub record IsPartOf (entries : Entries) (s : Segment) : Type 0 where
  pub order : s.from ≤ s.to
  pub within : s.to ≤ length entries.keys

-- the keys of a segment of these entries, each without so many of its first bytes
abbrev pub part_behind : ℕ → Entries → Segment → List Key
part_behind skip entries s = map (drop skip) (slice_range entries.keys s.from s.to)

-- how many records each of them took
abbrev pub part_counts : Entries → Segment → List ℕ
part_counts entries s = slice_range entries.counts s.from s.to
