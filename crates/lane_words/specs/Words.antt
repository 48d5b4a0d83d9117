-- 64-bit words, as numbers below 2 ^ 64.
use Rattle.std.specs.Prelude.{ℕ, ◌-◌, ◌^◌, ◌==◌, Bool, false, not, ◌||◌, List, [], ◌∷◌, bit_and}

-- the bits of a word that are clear in another
abbrev pub and_not : ℕ → ℕ → ℕ
and_not a b = bit_and a (2 ^ 64 - 1 - b)

-- whether any bit of any word is set
abbrev pub any_set : List ℕ → Bool
any_set [] = false
any_set (w ∷ ws) = not (w == 0) || any_set ws
