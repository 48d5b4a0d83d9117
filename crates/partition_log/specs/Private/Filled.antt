-- Logs filled record by record.
use Rattle.std.specs.Prelude.{ℕ, List, [], ◌∷◌, ◌++◌, slice_index_or, slice_set}

-- the logs after the records of these key numbers, each at the end of the log of its place
abbrev pub filled : List (List ℕ) → List ℕ → List ℕ → List (List ℕ)
filled logs [] ids = logs
filled logs (place ∷ places) [] = logs
filled logs (place ∷ places) (id ∷ ids) =
    filled (slice_set logs place (slice_index_or logs place [] ++ id ∷ [])) places ids
