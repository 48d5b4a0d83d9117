-- The keys of a file from those of its pieces.
use Rattle.std.proofs.Common.{◌≡◌, ◌≤◌, ◌+◌, ℕ, List, [], ◌∷◌, ◌++◌, Bool, true, false, Ok, Err, length, ap, refl, arith}
use Rattle.lane_words.specs.declared.Refusal.{Refusal}
use Rattle.csv_ingest.specs.KeyFile.{Record, Taking, after_keys, key_before, keys_of_records, taken_of}
use Rattle.csv_ingest.specs.Pieces.{file_records}
use Rattle.csv_ingest.specs.Private.Pieces.{IsWidthOf, without_key}
use Rattle.csv_ingest.proofs.Short.{file_records-short}
use Rattle.csv_ingest.proofs.Pieces.{keys_from-count}

pub after_keys-both : (xs ys : List (List ℕ)) → after_keys xs (Ok ys) ≡ Ok (xs ++ ys)
after_keys-both [] ys = refl
after_keys-both (x ∷ xs) ys = ap (key_before x) (after_keys-both xs ys)

pub after_keys-fault : (xs : List (List ℕ)) (e : Refusal) → after_keys xs (Err e) ≡ Err e
after_keys-fault [] e = refl
after_keys-fault (x ∷ xs) e = ap (key_before x) (after_keys-fault xs e)

pub count_of : (wanted : Taking) (header : Bool) (width : ℕ) (rows : List Record) (keys : List (List ℕ)) → IsWidthOf width rows → keys_of_records wanted header rows ≡ Ok keys
    → length rows ≡ without_key header + length keys
count_of wanted false width rows keys b e =
    let n = keys_from-count wanted (length b.0) 1 (b.0 ∷ b.1) keys (rw b.2 at e) in
    rw b.2 (omega (arith, n))
count_of wanted true width rows keys b e =
    let n = keys_from-count wanted (length b.0) 2 b.1 keys (rw b.2 at e) in
    rw b.2 (omega (arith, n))

keys-few : (wanted : Taking) (header : Bool) (rows : List Record) (keys : List (List ℕ)) → keys_of_records wanted header rows ≡ Ok keys → length keys ≤ length rows
keys-few wanted header [] keys e = let none : [] ≡ keys = cc e in rw (← none) (omega arith)
keys-few wanted header (x ∷ rows) keys e =
    let n = count_of wanted header (length x) (x ∷ rows) keys (x, rows, refl, refl) e in
    omega (arith, n)

pub keys_of-few : (delimiter : ℕ) (wanted : Taking) (header : Bool) (file : List ℕ) (keys : List (List ℕ)) → taken_of delimiter wanted header file ≡ Ok keys → length keys ≤ length file
keys_of-few delimiter wanted header file keys e =
    let rows = keys-few wanted header (file_records delimiter file) keys e in
    let short = file_records-short delimiter file in
    omega (arith, rows, short)
