use Rattle.std.proofs.Common.{◌≡◌, ◌<◌, ℕ, drop, get_or, length}
use Rattle.key_index.specs.Keys.{key_at}
use Rattle.key_counts.specs.Counts.{Entries}
use Rattle.key_counts.specs.Private.Filter.{part_of}
use Rattle.key_counts.specs.Private.Hashes.{ArePlacedTo, hash_at}
use Rattle.key_counts.specs.Private.Twins.{class_of}
use Rattle.key_counts.proofs.twins.classes_of.Given as goal

abbrev pub invariant-loop-part : goal.invariant-loop-part
invariant-loop-part l = record {
  len : length l.classes.items ≡ l.entries;
  each : (skip : ℕ) (entries : Entries) → ArePlacedTo l.filter.place skip entries l.entries l.lists → (code : ℕ) → code < l.entries
      → part_of (hash_at l.filter.place.hasher skip entries code) < l.part → get_or l.classes.items code 0 ≡ class_of l.filter (drop skip (key_at entries.keys code));
}
