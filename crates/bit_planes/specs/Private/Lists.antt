-- Lists over the numbers from 0 on.
use Rattle.std.specs.Prelude.{ℕ, zero, suc, Bool, List, [], ◌∷◌, ◌++◌, if◌then◌else◌}

-- for each number below n whether f holds for it
abbrev pub flags_where : ℕ → (ℕ → Bool) → List Bool
flags_where zero f = []
flags_where (suc n) f = f 0 ∷ flags_where n (λ q. f (suc q))

-- the numbers below n for which f holds, in rising order
abbrev pub list_where : ℕ → (ℕ → Bool) → List ℕ
list_where zero f = []
list_where (suc n) f = list_where n f ++ (if f n then n ∷ [] else [])
