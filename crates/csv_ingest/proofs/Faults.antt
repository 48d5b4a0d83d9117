-- What a read of keys is refused for.
use Rattle.std.proofs.Common.{◌≡◌, ◌+◌, ℕ, List, [], ◌∷◌, Bool, true, false, Result, Ok, Err, length, subst, inl, inr}
use Rattle.std.specs.Prelude.{◌==◌, ◌⊎◌, if◌then◌else◌, ⊤}
use Rattle.lane_words.specs.declared.Refusal.{Refusal}
use Rattle.lane_words.specs.declared.Refusal.TheVariants as r
use Rattle.csv_ingest.specs.declared.lack.Lack.{Lack}
use Rattle.csv_ingest.specs.declared.lack.Lack.TheVariants as l
use Rattle.csv_ingest.specs.KeyFile.{IsFileFault, Record, Taking, keyed, keys_from, taken_of, keys_of_records}
use Rattle.csv_ingest.specs.Pieces.{file_records}

-- a fault, where there is one, is one of a file
abbrev pub FailsAsFile : Result (List (List ℕ)) Refusal → Type 0
FailsAsFile (Ok keys) = ⊤
FailsAsFile (Err fault) = IsFileFault fault

keyed-kind : (b : Bool) (nth : ℕ) (o : Result (List ℕ) Lack) (rest : Result (List (List ℕ)) Refusal) → FailsAsFile rest
    → FailsAsFile (if b then keyed nth o rest else Err (r.BadCsv nth))
keyed-kind false nth o rest h = tt
keyed-kind true nth (Err l.Column) rest h = tt
keyed-kind true nth (Err l.Topic) rest h = tt
keyed-kind true nth (Ok key) (Ok keys) h = tt
keyed-kind true nth (Ok key) (Err fault) h = h

keys_from-kind : (wanted : Taking) (width nth : ℕ) (xs : List Record) → FailsAsFile (keys_from wanted width nth xs)
unfolding keys_from
keys_from-kind wanted width nth [] = tt
keys_from-kind wanted width nth (x ∷ xs) = keyed-kind (length x == width) nth (wanted x) _ (keys_from-kind wanted width (nth + 1) xs)

keys_of-kind : (wanted : Taking) (header : Bool) (rows : List Record) → FailsAsFile (keys_of_records wanted header rows)
keys_of-kind wanted header [] = tt
keys_of-kind wanted false (x ∷ rows) = keys_from-kind wanted (length x) 1 (x ∷ rows)
keys_of-kind wanted true (x ∷ rows) = keys_from-kind wanted (length x) 2 rows

-- what a file is refused for, apart from running out of memory
pub fault-kind : (delimiter : ℕ) (wanted : Taking) (header : Bool) (file : List ℕ) (e : Refusal) → (e ≡ r.Memory) ⊎ (taken_of delimiter wanted header file ≡ Err e) → IsFileFault e
fault-kind delimiter wanted header file e (inl m) = rw m tt
fault-kind delimiter wanted header file e (inr h) = subst FailsAsFile h (keys_of-kind wanted header (file_records delimiter file))
