-- The codes of records' entries.
use Rattle.std.specs.Prelude.{ℕ, Bool, true, false, List, [], ◌∷◌, ◌++◌}

-- the codes with that of one more record, if it gets one
abbrev pub with_code : Bool → List ℕ → ℕ → List ℕ
with_code true codes code = codes ++ code ∷ []
with_code false codes code = codes
