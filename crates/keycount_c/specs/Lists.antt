-- Lists that are written into the caller's memory.
use Rattle.std.specs.Prelude.{◌≡◌, ℕ, ◌<◌, ◌≤◌, List, ◌++◌, drop, length, min, take}
use Rattle.keycount_c.specs.declared.answers.TheConstants.{DONE, TOO_SHORT}

-- the output with these items at its front, and the rest as it was
abbrev pub with_front : {X : Type 0} → List X → List X → List X
with_front items out = items ++ drop (length items) out

-- a list goes to the front of an output that has room for it, and else nowhere; in both cases the
-- number of its items is told, so that a caller can make room
pub record IsListed {X : Type 0} (items out : List X) (answer : ℕ) (out' : List X) (count' : ℕ)
    : Type 0 where
  pub count : count' ≡ length items
  pub fits : length items ≤ length out → (answer ≡ DONE) × (out' ≡ with_front items out)
  pub short : length out < length items → (answer ≡ TOO_SHORT) × (out' ≡ out)

-- as many items as there are and as have room go to the front of an output, and their number is
-- told
pub record IsCopied {X : Type 0} (items out out' : List X) (count' : ℕ) : Type 0 where
  pub count : count' ≡ min (length items) (length out)
  pub front : out' ≡ with_front (take count' items) out
