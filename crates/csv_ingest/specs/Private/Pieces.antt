-- The keys of a file that lies in pieces.
use Rattle.std.specs.Prelude.{◌≡◌, ℕ, if◌then◌else◌, Bool, List, ◌∷◌, flat_map, length, map}
use Rattle.std.specs.Borrow.{Bor}
use Rattle.csv_ingest.specs.KeyFile.{Record}

-- the bytes of pieces, one after another
abbrev pub bytes_of : List (List ℕ) → List ℕ
bytes_of pieces = flat_map (λ piece. piece) pieces

-- the pieces that are lent
abbrev pub lent : List (Bor (List ℕ)) → List (List ℕ)
lent pieces = map (λ piece. piece.now) pieces

-- there is a first record, and it has this many fields
abbrev pub IsWidthOf : ℕ → List Record → Type 0
IsWidthOf width rows =
    (first : Record) × (more : List Record) × (rows ≡ first ∷ more) × (width ≡ length first)

-- how many of a file's records have no key
abbrev pub without_key : Bool → ℕ
without_key header = if header then 1 else 0
