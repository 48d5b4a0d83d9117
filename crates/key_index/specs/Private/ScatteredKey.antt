-- A key scattered to its shard: a short one is copied, a long one borrowed.
use Rattle.std.specs.Prelude.{ℕ, ◌≤◌, ⊤, List}
use Rattle.key_index.specs.declared.stored_key.TheConstants.{LONGEST_INLINE}
use Rattle.key_index.specs.declared.scattered_key.KeyBytes.{KeyBytes}
use Rattle.key_index.specs.declared.scattered_key.KeyBytes.TheVariants.{Short, Long}
use Rattle.key_index.specs.Private.StoredKey.{bytes_of}

-- the bytes of a key
abbrev pub scattered_bytes : KeyBytes → List ℕ
scattered_bytes (Short copy) = bytes_of copy
scattered_bytes (Long text) = text.now

-- a copy is no longer than its array
abbrev pub IsValidScattered : KeyBytes → Type 0
IsValidScattered (Short copy) = copy.size ≤ LONGEST_INLINE
IsValidScattered (Long text) = ⊤
