-- The bytes of a file that are in memory.
use Rattle.std.specs.Prelude.{◌≡◌, List, ℕ, ◌++◌, Option}
use Rattle.std.specs.Io.KnownBytes.{Consumes}

-- bytes were read from a source, and follow those that were there
abbrev pub Fills : Option (List ℕ) → Option (List ℕ) → List ℕ → List ℕ → Type 0
Fills left left2 text text2 =
    (read : List ℕ) × (text2 ≡ text ++ read) × Consumes left left2 read
