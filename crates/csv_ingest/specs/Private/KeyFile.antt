-- The keys of a file, record by record.
use Rattle.std.specs.Prelude.{◌≡◌, ◌+◌, ℕ, List, ◌∷◌, Err}
use Rattle.lane_words.specs.declared.Refusal.{Refusal}
use Rattle.csv_ingest.specs.KeyFile.{Record, Taking, after_keys, keys_from}

-- record number nth, of these fields, took the first keys to these: whatever the rest, the keys of
-- the file are as before
abbrev pub TakesKey : Taking → ℕ → ℕ → List (List ℕ) → List (List ℕ) → Record → Type 0
TakesKey wanted width nth old new fields =
    (rest : List Record) → after_keys old (keys_from wanted width nth (fields ∷ rest))
    ≡ after_keys new (keys_from wanted width (nth + 1) rest)

-- record number nth, of these fields, is at this fault, whatever the rest
abbrev pub IsFaultAt : Taking → ℕ → ℕ → Record → Refusal → Type 0
IsFaultAt wanted width nth fields fault =
    (rest : List Record) → keys_from wanted width nth (fields ∷ rest) ≡ Err fault
