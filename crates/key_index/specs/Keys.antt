-- Keys in the order of their first appearance, and their numbers.
use Rattle.std.specs.Prelude.{◌≡◌, ℕ, ◌<◌, Bool, true, List, [], ◌∷◌, ◌++◌, length, flat_map, fold, map, if◌then◌else◌, slice_index_or}
use Rattle.std.specs.Borrow.{Bor}
use Rattle.std.specs.List.{list_any, position_or_len}
use Rattle.std.specs.Str.{bytes_eq}

-- a key is any list of bytes
abbrev pub Key : Type 0
Key = List ℕ

-- whether a key is among these
abbrev pub is_interned : List Key → Key → Bool
is_interned keys key = list_any (bytes_eq key) keys

-- the keys with one more, which is appended if it is new
abbrev pub with_key : List Key → Key → List Key
with_key keys key = if is_interned keys key then keys else keys ++ key ∷ []

-- a key's number, counted from 0: its index among the keys, or the next number if it is new
abbrev pub id_of : List Key → Key → ℕ
id_of keys key = position_or_len (bytes_eq key) keys

-- the number of a key that is among these
abbrev pub IsIdOf : List Key → Key → ℕ → Type 0
IsIdOf keys key id = (id ≡ id_of keys key) × (id < length keys) × (is_interned keys key ≡ true)

-- the key with this number
abbrev pub key_at : List Key → ℕ → Key
key_at keys number = slice_index_or keys number []

-- no key occurs twice
abbrev pub IsWithoutRepeats : List Key → Type 0
IsWithoutRepeats keys =
    (m n : ℕ) → m < length keys → n < length keys → key_at keys m ≡ key_at keys n → m ≡ n

-- the distinct keys of a list, in the order of their first appearance
unfoldable pub distinct : List Key → List Key
distinct keys = fold with_key [] keys

-- the keys behind these references
abbrev pub lent : List (Bor Key) → List Key
lent keys = map (λ key. key.now) keys

-- the keys of the lists behind these references, concatenated
abbrev pub lent_lists : List (Bor (List (Bor Key))) → List Key
lent_lists lists = flat_map (λ list. lent list.now) lists
