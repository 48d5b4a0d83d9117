-- What a check finds, as rows.
use Rattle.std.specs.Prelude.{ℕ, ◌==◌, Bool, if◌then◌else◌, List, [], ◌∷◌, ◌++◌, Option, codes, decimal, flat_map, take}
use Rattle.std.specs.List.{list_any}
use Rattle.std.specs.Option.{is_some, option_map_or}
use Rattle.csv.specs.Writing.{row_text}
use Rattle.report_rows.specs.Rows.{row_writer}

-- one thing that is wrong, or may be: in which input, the code of the fault that a job would end
-- with if it is one, the number of the record, the line and the byte if it has them, and in words
-- what is wrong
pub record Finding : Type 0 where
  pub in_script : Bool
  pub code : Option ℕ
  pub nth : Option ℕ
  pub line : Option ℕ
  pub byte : Option ℕ
  pub words : List ℕ

-- a number, or nothing
abbrev pub number_text : Option ℕ → List ℕ
number_text number = option_map_or decimal number []

-- the name of an input
abbrev pub input_text : Bool → List ℕ
input_text in_script = if in_script then codes "script" else codes "file"

-- the first row: what the columns are
unfoldable pub finding_header : List ℕ
finding_header =
    row_text row_writer
    (codes "input" ∷ codes "code" ∷ codes "record" ∷ codes "line" ∷ codes "byte"
    ∷ codes "problem" ∷ [])

-- the row of a finding
unfoldable pub finding_row : Finding → List ℕ
finding_row finding =
    row_text row_writer
    (input_text finding.in_script ∷ number_text finding.code ∷ number_text finding.nth
    ∷ number_text finding.line ∷ number_text finding.byte ∷ finding.words ∷ [])

-- the table of findings
abbrev pub finding_table : List Finding → List ℕ
finding_table findings = finding_header ++ flat_map finding_row findings

-- whether one of them is a fault
abbrev pub has_fault : List Finding → Bool
has_fault findings = list_any (λ finding. is_some finding.code) findings

-- ---- words
-- a text as it is shown: its first bytes, in single quotes
abbrev pub shown : List ℕ → List ℕ
shown text = codes "'" ++ take 80 text ++ codes "'"

-- what fields are called, by their number
abbrev pub fields_word : ℕ → List ℕ
fields_word n = if n == 1 then codes "field" else codes "fields"
