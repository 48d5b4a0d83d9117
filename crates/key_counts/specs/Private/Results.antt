-- Lists that tasks make.
use Rattle.std.specs.Prelude.{◌≡◌, ◌<◌, ℕ, List, [], Vec, length, map, slice_index_or, vec_items}
use Rattle.std.specs.Global.{Global}

-- the list of a task
abbrev pub list_of : {X : Type 0} → List (Vec X Global) → ℕ → List X
list_of lists i = slice_index_or (map vec_items lists) i []

-- the lists of so many tasks
pub record AreMade {X : Type 0} (count : ℕ) (Made : ℕ → List X → Type 0)
    (lists : List (Vec X Global)) : Type 0 where
  pub len : length lists ≡ count
  pub each : (i : ℕ) → i < count → Made i (list_of lists i)
