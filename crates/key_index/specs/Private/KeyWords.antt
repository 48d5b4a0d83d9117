-- A short key in words, as it is looked up.
use Rattle.std.specs.Int.{to_le_bytes, w64}
use Rattle.std.specs.Prelude.{ℕ, ◌≡◌, ◌≤◌, ◌-◌, ◌++◌, List, replicate, take}
use Rattle.key_index.specs.declared.stored_key.TheConstants.{LONGEST_INLINE}

-- this many zeros
abbrev pub zeros : ℕ → List ℕ
zeros n = replicate n 0

-- the bytes of three words
abbrev pub all_bytes : ℕ → ℕ → ℕ → List ℕ
all_bytes first second third = to_le_bytes w64 first ++ to_le_bytes w64 second ++ to_le_bytes w64 third

-- these bytes are a short key of this length, and zeros behind it
abbrev pub IsPadded : List ℕ → ℕ → Type 0
IsPadded bytes size = (size ≤ LONGEST_INLINE) × (bytes ≡ take size bytes ++ zeros (24 - size))
