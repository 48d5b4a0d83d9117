-- The value of `--delimiter`: the word `tab`, or a character.
use Rattle.std.specs.Prelude.{◌≡◌, ℕ, ◌==◌, ◌&&◌, ◌||◌, not, nat_lt, if◌then◌else◌, Bool, List, [], ◌∷◌, Option, Some, None, codes}
use Rattle.std.specs.Str.{bytes_eq}

-- whether a byte can be a delimiter: ASCII, and no quote, line feed or carriage return
abbrev pub is_delimiter : ℕ → Bool
is_delimiter c = nat_lt c 128 && not ((c == 34) || (c == 10) || (c == 13))

-- the only byte of a text, if it can be a delimiter
abbrev pub only_delimiter : List ℕ → Option ℕ
only_delimiter [] = None
only_delimiter (c ∷ []) = if is_delimiter c then Some c else None
only_delimiter (c ∷ d ∷ rest) = None

-- the delimiter that a text gives
abbrev pub delimiter_in : List ℕ → Option ℕ
delimiter_in text = if bytes_eq text (codes "tab") then Some 9 else only_delimiter text

-- the delimiter of an option with this value; without it a comma
abbrev pub IsDelimiterOf : Option (List ℕ) → ℕ → Type 0
IsDelimiterOf None c = c ≡ 44
IsDelimiterOf (Some text) c = delimiter_in text ≡ Some c

-- the option has a value, and it gives no delimiter
abbrev pub IsBadDelimiter : Option (List ℕ) → Type 0
IsBadDelimiter None = ⊥
IsBadDelimiter (Some text) = delimiter_in text ≡ None
