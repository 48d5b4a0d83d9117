-- The keys of the pieces of a file.
use Rattle.std.proofs.Common.{◌≡◌, ◌+◌, ◌∙◌, ℕ, List, [], ◌∷◌, ◌++◌, Bool, true, false, Result, Ok, Err, length, map, sym, ap, refl, arith, subst}
use Rattle.std.specs.Prelude.{◌==◌, if◌then◌else◌, ⊤, suc}
use Rattle.std.specs.Prelude.{flat_map}
use Rattle.std.proofs.lemmas.List.{append-nil}
use Rattle.csv.specs.Machine.{next_record}
use Rattle.csv.specs.Reading.{records_from, strip_bom}
use Rattle.lane_words.specs.declared.Refusal.{Refusal}
use Rattle.lane_words.specs.declared.Refusal.TheVariants as r
use Rattle.csv_ingest.specs.declared.lack.Lack.{Lack}
use Rattle.csv_ingest.specs.declared.lack.Lack.TheVariants as l
use Rattle.csv_ingest.specs.KeyFile.{Record, Taking, keyed, keys_from, taken_of, keys_of_records}
use Rattle.csv_ingest.specs.Pieces.{ArePieces, file_records, joined, later_keys, piece_keys, then_keys}
use Rattle.csv_ingest.proofs.Stands.{cut_file}

keyed-then : (b : Bool) (nth : ℕ) (o : Result (List ℕ) Lack) (first rest : Result (List (List ℕ)) Refusal)
    → (if b then keyed nth o (then_keys first rest) else Err (r.BadCsv nth)) ≡ then_keys (if b then keyed nth o first else Err (r.BadCsv nth)) rest
keyed-then false nth o first rest = refl
keyed-then true nth (Err lack) first rest = refl
keyed-then true nth (Ok key) (Ok keys) rest = refl
keyed-then true nth (Ok key) (Err fault) rest = refl

pub keys_from-append : (wanted : Taking) (width nth : ℕ) (xs ys : List Record)
    → keys_from wanted width nth (xs ++ ys) ≡ then_keys (keys_from wanted width nth xs) (keys_from wanted width (nth + length xs) ys)
unfolding keys_from
keys_from-append wanted width nth [] ys =
    let same : nth + 0 ≡ nth = omega arith in
    rw same refl
keys_from-append wanted width nth (x ∷ xs) ys =
    let same : nth + length (x ∷ xs) ≡ nth + 1 + length xs = omega arith in
    rw (same, keys_from-append wanted width (nth + 1) xs ys) (keyed-then (length x == width) nth (wanted x) (keys_from wanted width (nth + 1) xs) _)

-- so many keys, where there is no fault
abbrev pub Counted : Result (List (List ℕ)) Refusal → ℕ → Type 0
Counted (Ok keys) n = length keys ≡ n
Counted (Err fault) n = ⊤

counted-keyed : (b : Bool) (nth n : ℕ) (o : Result (List ℕ) Lack) (rest : Result (List (List ℕ)) Refusal) → Counted rest n
    → Counted (if b then keyed nth o rest else Err (r.BadCsv nth)) (suc n)
counted-keyed false nth n o rest h = tt
counted-keyed true nth n (Err lack) rest h = tt
counted-keyed true nth n (Ok key) (Ok keys) h = ap suc h
counted-keyed true nth n (Ok key) (Err fault) h = tt

counted : (wanted : Taking) (width nth : ℕ) (xs : List Record) → Counted (keys_from wanted width nth xs) (length xs)
unfolding keys_from
counted wanted width nth [] = refl
counted wanted width nth (x ∷ xs) = counted-keyed (length x == width) nth (length xs) _ _ (counted wanted width (nth + 1) xs)

pub keys_from-count : (wanted : Taking) (width nth : ℕ) (xs : List Record) (keys : List (List ℕ)) → keys_from wanted width nth xs ≡ Ok keys → length keys ≡ length xs
keys_from-count wanted width nth xs keys e = subst (λ found. Counted found (length xs)) e (counted wanted width nth xs)

keyed-later : (b : Bool) (nth earlier : ℕ) (o : Result (List ℕ) Lack) (rest : Result (List (List ℕ)) Refusal)
    → (if b then keyed (nth + earlier) o (later_keys earlier rest) else Err (r.BadCsv (nth + earlier))) ≡ later_keys earlier (if b then keyed nth o rest else Err (r.BadCsv nth))
keyed-later false nth earlier o rest = refl
keyed-later true nth earlier (Err l.Column) rest = refl
keyed-later true nth earlier (Err l.Topic) rest = refl
keyed-later true nth earlier (Ok key) (Ok keys) = refl
keyed-later true nth earlier (Ok key) (Err fault) = refl

pub keys_from-later : (wanted : Taking) (width nth earlier : ℕ) (xs : List Record) → keys_from wanted width (nth + earlier) xs ≡ later_keys earlier (keys_from wanted width nth xs)
unfolding keys_from
keys_from-later wanted width nth earlier [] = refl
keys_from-later wanted width nth earlier (x ∷ xs) =
    let same : nth + earlier + 1 ≡ nth + 1 + earlier = omega arith in
    rw (same, keys_from-later wanted width (nth + 1) earlier xs) (keyed-later (length x == width) nth earlier (wanted x) (keys_from wanted width (nth + 1) xs))

pub no_records : (delimiter : ℕ) → file_records delimiter [] ≡ []
unfolding records_from next_record strip_bom
no_records delimiter = refl

pub pieces-records : (delimiter : ℕ) (pieces : List (List ℕ)) (file : List ℕ) → ArePieces delimiter file pieces → file_records delimiter file ≡ flat_map (file_records delimiter) pieces
unfolding ArePieces
pieces-records delimiter [] file h = rw h (no_records delimiter)
pieces-records delimiter (piece ∷ []) file h = rw h (sym (append-nil (file_records delimiter piece)))
pieces-records delimiter (piece ∷ next ∷ pieces) file h =
    rw h.1 (cut_file delimiter piece h.0 h.2 ∙ ap (λ rest. file_records delimiter piece ++ rest) (pieces-records delimiter (next ∷ pieces) (10 ∷ h.0) h.3))

first_piece : (delimiter : ℕ) (piece : List ℕ) (pieces : List (List ℕ)) (file : List ℕ) → ArePieces delimiter file (piece ∷ pieces) → file_records delimiter file ≡ file_records delimiter piece ++ flat_map (file_records delimiter) pieces
first_piece delimiter piece pieces file h = pieces-records delimiter (piece ∷ pieces) file h

after-later : (earlier : ℕ) (found : Result (List (List ℕ)) Refusal) (n : ℕ) (rest : Result (List (List ℕ)) Refusal) (others : List (Result (List (List ℕ)) Refusal)) → Counted found n
    → rest ≡ joined (earlier + n) others → then_keys (later_keys earlier found) rest ≡ joined earlier (found ∷ others)
after-later earlier (Ok keys) n rest others c e = rw (e, ← c) refl
after-later earlier (Err fault) n rest others c e = refl

keys_from-nil : (wanted : Taking) (width nth : ℕ) → keys_from wanted width nth [] ≡ Ok []
unfolding keys_from
keys_from-nil wanted width nth = refl

pub joined-pieces : (delimiter : ℕ) (wanted : Taking) (width : ℕ) (pieces : List (List ℕ)) (earlier : ℕ)
    → keys_from wanted width (1 + earlier) (flat_map (file_records delimiter) pieces) ≡ joined earlier (map (piece_keys delimiter wanted width) pieces)
joined-pieces delimiter wanted width [] earlier = keys_from-nil wanted width (1 + earlier)
joined-pieces delimiter wanted width (piece ∷ pieces) earlier =
    let rows = file_records delimiter piece in
    let same : 1 + earlier + length rows ≡ 1 + (earlier + length rows) = omega arith in
    keys_from-append wanted width (1 + earlier) rows (flat_map (file_records delimiter) pieces)
    ∙ rw (keys_from-later wanted width 1 earlier rows, same)
    (after-later earlier (piece_keys delimiter wanted width piece) (length rows) _ (map (piece_keys delimiter wanted width) pieces) (counted wanted width 1 rows)
    (joined-pieces delimiter wanted width pieces (earlier + length rows)))

pub keys_of-two : (wanted : Taking) (header : Bool) (first : Record) (more ys : List Record)
    → keys_of_records wanted header (first ∷ more ++ ys)
    ≡ then_keys (keys_of_records wanted header (first ∷ more)) (keys_from wanted (length first) (1 + length (first ∷ more)) ys)
keys_of-two wanted false first more ys = keys_from-append wanted (length first) 1 (first ∷ more) ys
keys_of-two wanted true first more ys =
    let same : 2 + length more ≡ 1 + length (first ∷ more) = omega arith in
    keys_from-append wanted (length first) 2 more ys ∙ rw same refl

pub pieces-keys : (delimiter : ℕ) (wanted : Taking) (header : Bool) (file piece : List ℕ) (pieces : List (List ℕ)) (first : Record) (more : List Record) → ArePieces delimiter file (piece ∷ pieces)
    → file_records delimiter piece ≡ first ∷ more
    → taken_of delimiter wanted header file ≡ then_keys (taken_of delimiter wanted header piece) (joined (length (first ∷ more)) (map (piece_keys delimiter wanted (length first)) pieces))
pieces-keys delimiter wanted header file piece pieces first more h e =
    rw (first_piece delimiter piece pieces file h, e)
    (keys_of-two wanted header first more (flat_map (file_records delimiter) pieces)
    ∙ ap (then_keys (keys_of_records wanted header (first ∷ more))) (joined-pieces delimiter wanted (length first) pieces (length (first ∷ more))))
