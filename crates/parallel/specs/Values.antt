-- Values of calls.
-- A pair that begins with an equation shows `grind` the term at which to use the rest.
use Rattle.std.specs.Prelude.{◌≡◌, ◌<◌, ℕ, List, Ok, Result, slice_index_or}
use Rattle.std.specs.Fn.{FnReturns}
use denote.Param.Members.{Shared}

-- each of the first n values is one that a call of f with its index may give
abbrev pub AreValues : {F T E : Type 0} → Shared F (ℕ × Unit {0}) (Result T E) → F → ℕ
    → List T → Type 0
AreValues {F} {T} g f n values =
    (i : ℕ) (d : T) → i < n
    → (slice_index_or values i d ≡ slice_index_or values i d)
    × FnReturns g f (i, tt) (Ok (slice_index_or values i d))
