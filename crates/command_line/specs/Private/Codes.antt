-- The numbers of refusals.
use Rattle.std.specs.Prelude.{ℕ, ◌==◌, Bool}
use Rattle.lane_words.specs.Refusal.{code_of}
use Rattle.lane_words.specs.declared.Refusal.{Refusal}

-- the refusal has this number
unfoldable pub has_code : ℕ → Refusal → Bool
has_code code refusal = code_of refusal == code
