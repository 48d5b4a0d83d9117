-- The first record of a file in pieces, and the columns that it names.
use Rattle.std.proofs.Common.{◌≡◌, ◌<◌, ◌≤◌, ◌+◌, ◌∙◌, ℕ, suc, zero, List, [], ◌∷◌, ◌++◌, Bool, Bor, true, false, Some, Ok, Option, length, get_or, drop, take, refl, ap, sym, arith, append_assoc}
use Rattle.std.specs.Prelude.{MatchOption, None}
use Rattle.std.specs.Option.{is_some}
use Rattle.std.specs.List.{position_from}
use Rattle.std.specs.Str.{bytes_eq}
use Rattle.std.proofs.lemmas.List.{drop_more, get_or-take, length-take}
use Rattle.csv.specs.Reading.{strip_bom}
use Rattle.csv.specs.Records.{field_at}
use Rattle.csv_ingest.specs.Header.{HasHeader, column_at, column_named, header_of}
use Rattle.csv_ingest.specs.KeyFile.{Record}
use Rattle.csv_ingest.specs.Pieces.{ArePieces, file_records}
use Rattle.csv_ingest.specs.Private.Pieces.{IsWidthOf, lent}
use Rattle.csv_ingest.specs.Stand.{IsCut}
use Rattle.csv_ingest.proofs.Parts.{lent-at, lent-long}
use Rattle.csv_ingest.proofs.Stands.{cut_file}

-- ---- the fields of the header
pub field-there : (fields : Record) (i : ℕ) → i < length fields → field_at fields i ≡ Some (get_or fields i [])
unfolding field_at
field-there [] i h = absurd (omega (arith, h))
field-there (field ∷ fields) zero h = refl
field-there (field ∷ fields) (suc i) h = field-there fields i (omega (arith, h))

rest-of : (most i : ℕ) (fields : Record) → i < length fields → i < most → drop i (take most fields) ≡ get_or fields i [] ∷ drop (i + 1) (take most fields)
rest-of most i fields h k =
    drop_more (take most fields) i [] (omega (arith, h, k, length-take most fields)) ∙ ap (λ field. field ∷ drop (i + 1) (take most fields)) (get_or-take most fields i [] k)

pub field-other : (t : List ℕ → Bool) (most i : ℕ) (fields : Record) (field : List ℕ) → i < length fields → i < most → field_at fields i ≡ Some field → t field ≡ false
    → position_from t i (drop i (take most fields)) ≡ position_from t (i + 1) (drop (i + 1) (take most fields))
field-other t most i fields field h k at e =
    let is : get_or fields i [] ≡ field = cc (sym (field-there fields i h) ∙ at) in
    rw (rest-of most i fields h k, is, e) refl

pub field-here : (t : List ℕ → Bool) (most i : ℕ) (fields : Record) (field : List ℕ) → i < length fields → i < most → field_at fields i ≡ Some field → t field ≡ true
    → position_from t i (drop i (take most fields)) ≡ Some i
field-here t most i fields field h k at e =
    let is : get_or fields i [] ≡ field = cc (sym (field-there fields i h) ∙ at) in
    rw (rest-of most i fields h k, is, e) refl

-- ---- the column
pub column-none : (most : ℕ) (name : List ℕ) (rows : List Record) → rows ≡ [] → Ok 1 ≡ column_named most name rows
column-none most name rows none = sym (ap (column_named most name) none)

pub column-found : (most : ℕ) (name : List ℕ) (rows : List Record) (fields : Record) (rest : List Record) (index : Option ℕ) → rows ≡ fields ∷ rest
    → index ≡ position_from (bytes_eq name) 0 (take most fields) → column_at index ≡ column_named most name rows
column-found most name rows fields rest index is at = ap column_at at ∙ sym (ap (column_named most name) is)

-- ---- the header is in the first bytes of a file
-- the same header names the same columns
pub column-same : (most : ℕ) (name : List ℕ) (xs ys : List Record) → header_of xs ≡ header_of ys → column_named most name xs ≡ column_named most name ys
column-same most name [] [] e = refl
column-same most name [] (y ∷ ys) e = absurd (cc e)
column-same most name (x ∷ xs) [] e = absurd (cc e)
column-same most name (x ∷ xs) (y ∷ ys) e = let same : x ≡ y = cc e in ap (λ header. column_at (position_from (bytes_eq name) 0 (take most header))) same

-- a record before a line feed at which a file can be cut is the first of the file
header-cut : (delimiter : ℕ) (piece rest : List ℕ) (first : Record) (rows : List Record) → IsCut delimiter (strip_bom piece) → file_records delimiter piece ≡ first ∷ rows
    → header_of (file_records delimiter (piece ++ 10 ∷ rest)) ≡ Some first
header-cut delimiter piece rest first rows cut is =
    ap header_of (cut_file delimiter piece rest cut ∙ ap (λ xs. xs ++ file_records delimiter (10 ∷ rest)) is)

pub header-whole : (delimiter : ℕ) (text : List ℕ) (pieces : List (List ℕ)) (width : ℕ) → ArePieces delimiter text pieces → 2 ≤ length pieces
    → IsWidthOf width (file_records delimiter (get_or pieces 0 [])) → HasHeader delimiter text
unfolding ArePieces
header-whole delimiter text [] width h two b = absurd (omega (arith, two))
header-whole delimiter text (piece ∷ []) width h two b = absurd (omega (arith, two))
header-whole delimiter text (piece ∷ next ∷ pieces) width h two b = λ more.
    let rest = h.0 in
    let longer : text ++ more ≡ piece ++ 10 ∷ (rest ++ more) = ap (λ xs. xs ++ more) h.1 ∙ append_assoc piece (10 ∷ rest) more in
    ap (λ xs. header_of (file_records delimiter xs)) longer
    ∙ header-cut delimiter piece (rest ++ more) b.0 b.1 h.2 b.2
    ∙ sym (ap (λ xs. header_of (file_records delimiter xs)) h.1 ∙ header-cut delimiter piece rest b.0 b.1 h.2 b.2)

-- the same, of the pieces that are lent
pub header-found : (delimiter : ℕ) (text : List ℕ) (pieces : List (Bor (List ℕ))) (piece : List ℕ) (d : Bor (List ℕ)) (width : Option ℕ) → ArePieces delimiter text (lent pieces) → 2 ≤ length pieces
    → piece ≡ (get_or pieces 0 d).now → MatchOption width (file_records delimiter piece ≡ []) (λ w. IsWidthOf w (file_records delimiter piece)) → is_some width ≡ true → HasHeader delimiter text
header-found delimiter text pieces piece d None h two first b some = absurd (cc some)
header-found delimiter text pieces piece d (Some width) h two first b some =
    let same : piece ≡ get_or (lent pieces) 0 [] = first ∙ sym (lent-at pieces 0 d (omega (arith, two))) in
    header-whole delimiter text (lent pieces) width h (omega (arith, two, lent-long pieces)) (rw same at b)
