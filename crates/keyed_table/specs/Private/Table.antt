-- The counters of a table.
use Rattle.std.specs.Prelude.{◌≡◌, ◌-◌, ◌≤◌, ℕ, List, length, take, slice_index_or}
use Rattle.keyed_table.specs.Counts.{Counters}

-- the counters of the keys, and the capacity for more after them
abbrev pub table_view : ℕ → List ℕ → Counters
table_view keys cells = record { counts = take keys cells; capacity = length cells - keys }

-- the counters past the keys are zero
pub record IsValidTable (keys : ℕ) (cells : List ℕ) : Type 0 where
  pub within : keys ≤ length cells
  pub unused : (x : ℕ) → keys ≤ x → slice_index_or cells x 0 ≡ 0
