-- A key as the key map stores it: a short one inline, a long one on the heap.
use Rattle.std.specs.Prelude.{ℕ, ◌≡◌, ◌≤◌, ⊤, List, take}
use Rattle.key_index.specs.declared.stored_key.TheConstants.{LONGEST_INLINE}
use Rattle.key_index.specs.declared.stored_key.ShortKey.{ShortKey}
use Rattle.key_index.specs.declared.stored_key.Storage.{Storage}
use Rattle.key_index.specs.declared.stored_key.Storage.TheVariants.{Inline, Heap}

-- the bytes of a copy of a key
abbrev pub bytes_of : ShortKey → List ℕ
bytes_of copy = take copy.size copy.bytes

-- this is a copy of a key
abbrev pub IsCopyOf : List ℕ → ShortKey → Type 0
IsCopyOf key copy = (copy.size ≤ LONGEST_INLINE) × (bytes_of copy ≡ key)

-- the bytes of a key
abbrev pub bytes_in : Storage → List ℕ
bytes_in (Inline bytes size) = take size bytes
bytes_in (Heap text) = text.value.items

-- an inline key is no longer than its array
abbrev pub IsValidStoredKey : Storage → Type 0
IsValidStoredKey (Inline bytes size) = size ≤ LONGEST_INLINE
IsValidStoredKey (Heap text) = ⊤
