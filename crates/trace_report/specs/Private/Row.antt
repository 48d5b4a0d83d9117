-- The cells of a row that is being made.
use Rattle.std.specs.Prelude.{◌≡◌, ℕ, List, [], ◌++◌}
use Rattle.csv.specs.Records.{Row, fields_of, partial_of}

-- a row has these cells, and no part of another
pub record HasCells (row : Row) (cells : List (List ℕ)) : Type 0 where
  pub cells_are : fields_of row ≡ cells
  pub whole : partial_of row ≡ []

-- the row got these cells after those that it had
abbrev pub AddsCells : Row → Row → List (List ℕ) → Type 0
AddsCells old new cells =
    (before : List (List ℕ)) → HasCells old before → HasCells new (before ++ cells)
