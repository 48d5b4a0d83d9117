-- The names of members and topics.
use Rattle.std.specs.Prelude.{◌≡◌, ℕ, ◌≤◌, Bool, true, ◌&&◌, ◌||◌, ◌==◌, nat_le, List, length, take}
use Rattle.std.specs.List.{list_all}

abbrev pub is_letter : ℕ → Bool
is_letter b = (nat_le 65 b && nat_le b 90) || (nat_le 97 b && nat_le b 122)

abbrev pub is_digit : ℕ → Bool
is_digit b = nat_le 48 b && nat_le b 57

-- an ASCII letter, a digit, '-' or '_'
abbrev pub is_name_byte : ℕ → Bool
is_name_byte b = is_letter b || is_digit b || (b == 45) || (b == 95)

-- 1 to 32 of them
abbrev pub is_name : List ℕ → Bool
is_name text =
    nat_le 1 (length text) && nat_le (length text) 32 && list_all is_name_byte text

-- the text of a stored name: its first bytes
abbrev pub text_in : ℕ → List ℕ → List ℕ
text_in size bytes = take size bytes

pub record IsValidName (size : ℕ) (bytes : List ℕ) : Type 0 where
  pub short : size ≤ 32
  pub name : is_name (take size bytes) ≡ true
