-- Where the first of up to three bytes is, and which bytes end a field without quotes.
use Rattle.std.specs.Prelude.{◌≡◌, ◌↔◌, ◌<◌, ◌≤◌, ◌+◌, ◌==◌, ◌||◌, ℕ, Bool, false, true, List, get_or, length}
use Rattle.std.specs.Int.{bit_at}

-- whether a byte is one of three
abbrev pub is_any : ℕ → ℕ → ℕ → ℕ → Bool
is_any a b c x = (x == a) || ((x == b) || (x == c))

-- of so many bytes from a place on, the bits of a number tell which are one of three
abbrev pub HasMarks : ℕ → ℕ → ℕ → ℕ → List ℕ → ℕ → ℕ → Type 0
HasMarks lanes a b c text at marks = (k : ℕ) → (bit_at marks k ≡ 1)
    ↔ ((k < lanes) × (is_any a b c (get_or text (at + k) 0) ≡ true))

-- no byte from one place up to another is one of three
abbrev pub HasNone : ℕ → ℕ → ℕ → List ℕ → ℕ → ℕ → Type 0
HasNone a b c text from to = (i : ℕ) → from ≤ i → i < to
    → is_any a b c (get_or text i 0) ≡ false

-- the first byte from a place on that is one of three is here, or the text ends here without one
pub record IsFirstFrom (a b c : ℕ) (text : List ℕ) (at first : ℕ) : Type 0 where
  pub order : at ≤ first
  pub within : first ≤ length text
  pub none : HasNone a b c text at first
  pub is : first < length text → is_any a b c (get_or text first 0) ≡ true

-- whether a byte ends a field without quotes
abbrev pub ends_field : ℕ → ℕ → Bool
ends_field delimiter c = is_any delimiter 13 10 c
