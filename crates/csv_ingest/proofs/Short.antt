-- A file has no more records than bytes, so that their numbers fit.
use Rattle.std.proofs.Common.{◌≡◌, ◌≤◌, ◌+◌, ℕ, List, [], ◌∷◌, ◌++◌, Bool, true, false, length, refl, arith, inl, inr}
use Rattle.std.proofs.lemmas.Bool.{cases_Bool}
use Rattle.std.specs.Prelude.{if◌then◌else◌, suc}
use Rattle.csv.specs.Machine.{ends_at_end, field_after, fields_after, is_end, step}
use Rattle.csv.specs.Reading.{is_bom, records, strip_bom}
use Rattle.csv.specs.declared.parser.State.{State}
use Rattle.csv.specs.declared.parser.State.TheVariants as st
use Rattle.csv_ingest.specs.Pieces.{file_records}
use Rattle.csv_ingest.specs.KeyFile.{Record, dialect}
use Rattle.csv_ingest.specs.Records.{IsBetween}
use Rattle.csv_ingest.proofs.Progress.{step-between}
use Rattle.csv_ingest.specs.Private.Walk.{walk}
use Rattle.csv_ingest.proofs.Walk.{records-walk}

-- one record more, where the end of the text ends one
abbrev last_one : Bool → ℕ
last_one ends = if ends then 1 else 0

one_at_most : (b : Bool) → last_one b ≤ 1
one_at_most true = omega arith
one_at_most false = omega arith

none_between : (s : State) → IsBetween s → last_one (ends_at_end s) ≡ 0
none_between s (inl e) = rw e refl
none_between s (inr e) = rw e refl

end_short : (b : Bool) (row : Record) → length (if b then row ∷ [] else []) ≤ 0 + last_one b
end_short true row = omega arith
end_short false row = omega arith

if_short : (b : Bool) (row : Record) (x y : List Record) (n : ℕ) → (b ≡ true → suc (length x) ≤ n) → length y ≤ n → length (if b then row ∷ x else y) ≤ n
if_short true row x y n h k = h refl
if_short false row x y n h k = k

walk-short : (delimiter : ℕ) (xs : List ℕ) (s : State) (fields : List (List ℕ)) (field : List ℕ) → length (walk delimiter s fields field xs) ≤ length xs + last_one (ends_at_end s)
unfolding walk
walk-short delimiter [] s fields field = end_short (ends_at_end s) (fields ++ (field ∷ []))
walk-short delimiter (c ∷ xs) s fields field =
    let next = (step (dialect delimiter) s c).0 in
    let row = fields_after (step (dialect delimiter) s c).1 fields field in
    let more = walk-short delimiter xs next [] [] in
    let on = walk-short delimiter xs next row (field_after (step (dialect delimiter) s c).1 c field) in
    let one = one_at_most (ends_at_end next) in
    if_short (is_end (step (dialect delimiter) s c).1) row (walk delimiter next [] [] xs) _ (length (c ∷ xs) + last_one (ends_at_end s))
    (λ e. let none = none_between next (step-between delimiter s c e) in omega (arith, more, none))
    (omega (arith, on, one))

records-short : (delimiter : ℕ) (xs : List ℕ) → length (records (dialect delimiter) xs) ≤ length xs
records-short delimiter xs = rw (records-walk delimiter xs) (let h = walk-short delimiter xs st.StartRecord [] [] in omega (arith, h))

strip-short : (xs : List ℕ) → length (strip_bom xs) ≤ length xs
unfolding strip_bom
strip-short [] = omega arith
strip-short (a ∷ []) = omega arith
strip-short (a ∷ b ∷ []) = omega arith
strip-short (a ∷ b ∷ c ∷ xs) = elim (cases_Bool (is_bom a b c)) [ inl t ↦ rw t (omega arith) | inr f ↦ rw f (omega arith) ]

pub file_records-short : (delimiter : ℕ) (xs : List ℕ) → length (file_records delimiter xs) ≤ length xs
file_records-short delimiter xs = let a = records-short delimiter (strip_bom xs) in let b = strip-short xs in omega (arith, a, b)
