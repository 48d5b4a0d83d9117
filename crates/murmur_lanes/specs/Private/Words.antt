-- Words of a key.
use Rattle.std.specs.Prelude.{ℕ, ◌+◌, List, slice_index}
use Rattle.murmur_lanes.specs.Murmur.{word_of}

-- the four bytes of a key from an index on
abbrev pub word_from : List ℕ → ℕ → ℕ
word_from key at = word_of (slice_index key at) (slice_index key (at + 1))
    (slice_index key (at + 2)) (slice_index key (at + 3))
