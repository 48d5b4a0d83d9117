-- Those who take the keys of records.
use Rattle.std.specs.Prelude.{◌≡◌, ◌⊎◌, ℕ, List, ◌∷◌, length, Option, Some, None, Result, Ok, Err}
use Rattle.lane_words.specs.declared.Refusal.{Refusal}
use Rattle.lane_words.specs.declared.Refusal.TheVariants as r

-- the key, behind the index of its topic where there is one
abbrev pub item : Option ℕ → List ℕ → List ℕ
item None key = key
item (Some index) key = index ∷ key

-- a sink took the keys that were to be found, so many; or this is their fault, or memory was
-- refused. `Takes` says what a sink has taken
abbrev pub TakesFound : {S : Type 0} → (S → List (List ℕ) → S → Type 0)
    → Result (List (List ℕ)) Refusal → S → S → Result ℕ Refusal → Type 0
TakesFound Takes found old new (Ok n) =
    (keys : List (List ℕ)) × (found ≡ Ok keys) × (n ≡ length keys) × Takes old keys new
TakesFound Takes found old new (Err fault) = (fault ≡ r.Memory) ⊎ (found ≡ Err fault)
