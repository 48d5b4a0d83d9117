-- The names of a group.
use Rattle.std.specs.Prelude.{◌≡◌, ℕ, ◌+◌, ◌<◌, List, Some, map, slice_get}
use Rattle.group_machine.specs.State.{GroupState, member_named}

-- all names, in the order of their numbers
abbrev pub names : GroupState → List (List ℕ)
names g = map (λ s. s.name) g.slots

-- a name has a number: the last one with this name
pub record HasNumber (g : GroupState) (name : List ℕ) : Type 0 where
  pub index : ℕ
  pub number : member_named g name ≡ Some (index + 1)
  pub named : slice_get (names g) index ≡ Some name
  pub newest : (later : ℕ) → index < later → slice_get (names g) later ≡ Some name → ⊥
