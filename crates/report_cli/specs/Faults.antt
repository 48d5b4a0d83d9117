-- The line of a fault, and the exit status of a program that ends with it.
use Rattle.std.specs.Prelude.{ℕ, List, [], ◌∷◌, ◌++◌, ◌==◌, if◌then◌else◌, codes, decimal}
use Rattle.std.specs.List.{list_any}
use Rattle.lane_words.specs.Refusal.{code_of}
use Rattle.lane_words.specs.declared.Refusal.{Refusal}
use Rattle.lane_words.specs.declared.Refusal.TheVariants as r

-- the location of a fault in a file, if it has one: the number of a record or of a line, from 1
abbrev pub location_text : Refusal → List ℕ
location_text (r.NoSuchColumn nth) = codes " at record " ++ decimal nth
location_text (r.BadCsv nth) = codes " at record " ++ decimal nth
location_text (r.NoSuchTopic nth) = codes " at record " ++ decimal nth
location_text (r.BadLine line) = codes " at line " ++ decimal line
location_text (r.NobodyLeft line) = codes " at line " ++ decimal line
location_text _ = []

-- the line of a fault: its code, its location, and a line feed
unfoldable pub fault_text : Refusal → List ℕ
fault_text fault = codes "fault " ++ decimal (code_of fault) ++ location_text fault ++ codes "\n"

-- the codes of the faults that are in the input
abbrev pub input_codes : List ℕ
input_codes = 20 ∷ 21 ∷ 22 ∷ 23 ∷ 24 ∷ 27 ∷ 32 ∷ []

-- the exit status of a program that ends with a fault: 1 if it is in the input, 3 otherwise
abbrev pub status_of : Refusal → ℕ
status_of fault = if list_any (λ code. code_of fault == code) input_codes then 1 else 3
