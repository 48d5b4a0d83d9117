-- The rows that a loop goes over.
use Rattle.std.proofs.Common.{ℕ, ◌≡◌, ◌+◌, ◌<◌, ◌∙◌, List, [], ◌∷◌, ◌++◌, length, take, get_or, ap, sym}
use Rattle.std.proofs.lemmas.List.{take_more}
use Rattle.bit_planes.specs.PartitionSet.{PartitionSet}

abbrev Rows : Type 0
Rows = List (ℕ × PartitionSet)

pub items_more : (items : Rows) (i : ℕ) (item : ℕ × PartitionSet) → i < length items → item ≡ get_or items i item → take (i + 1) items ≡ take i items ++ item ∷ []
items_more items i item lt at = take_more items i item lt ∙ ap (λ row. take i items ++ row ∷ []) (sym at)
