-- Values that threads found, each with its index.
use Rattle.std.specs.Prelude.{◌≡◌, ◌<◌, ◌⊎◌, ℕ, Contains, IfOk, List, Ok, Result, length, slice_index_or}
use Rattle.std.specs.Fn.{FnReturns}
use Rattle.parallel.specs.declared.collect.Done.{Done}
use denote.Param.Members.{Shared}

-- its index is below n
abbrev pub IsWithin : {T : Type 0} → ℕ → Done T → Type 0
IsWithin n done = done.index < n

-- and its value is one that a call of f with the index may give
pub record IsDone {F T E : Type 0} (g : Shared F (ℕ × Unit {0}) (Result T E)) (f : F) (n : ℕ)
    (done : Done T) : Type 0 where
  pub within : done.index < n
  pub value : FnReturns g f (done.index, tt) (Ok done.value)

-- each place is as it was, or has the value of its index
abbrev pub ArePlaced : {T E : Type 0} → List (Done T) → List (Result T E) → List (Result T E)
    → Type 0
ArePlaced {T} {E} done old new =
    (i : ℕ) (d : Result T E) → i < length old
    → (slice_index_or new i d ≡ slice_index_or old i d)
    ⊎ ((x : T) × (slice_index_or new i d ≡ Ok x)
    × Contains done (record { index = i; value = x }))

-- n results: each is an error, or a value that P holds of, with the index of the result
abbrev pub AreResults : {X E : Type 0} → (ℕ → X → Type 0) → ℕ → List (Result X E) → Type 0
AreResults {X} {E} P n results =
    (i : ℕ) (d : Result X E) → i < n → IfOk (slice_index_or results i d) (P i)

-- the values are those that calls of f may give
abbrev pub AreResultsOf : {F T E : Type 0} → Shared F (ℕ × Unit {0}) (Result T E) → F → ℕ
    → List (Result T E) → Type 0
AreResultsOf g f = AreResults (λ i x. FnReturns g f (i, tt) (Ok x))
